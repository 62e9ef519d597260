-- "Bit-packed, most significant bit first": a bit of a number, a bit of a row of bytes, and a field, which is bits in a row.
use Rattle.std.specs.Prelude.{ℕ, zero, suc, ◌+◌, ◌-◌, ◌*◌, ◌/◌, ◌%◌, List, get_or, set}

-- bit t of a number, worth 2 ^ t
unfoldable pub bit_of : ℕ → ℕ → ℕ
bit_of n zero = n % 2
bit_of n (suc t) = bit_of (n / 2) t

-- the number with x for its bit t
unfoldable pub with_bit : ℕ → ℕ → ℕ → ℕ
with_bit n zero x = n / 2 * 2 + x
with_bit n (suc t) x = with_bit (n / 2) t x * 2 + n % 2

-- bit i of the bytes: a byte's most significant bit comes first
unfoldable pub bit_at : List ℕ → ℕ → ℕ
bit_at bytes i = bit_of (get_or bytes (i / 8) 0) (7 - i % 8)

-- the bytes with x for their bit i
unfoldable pub set_bit : List ℕ → ℕ → ℕ → List ℕ
set_bit bytes i x = set bytes (i / 8) (with_bit (get_or bytes (i / 8) 0) (7 - i % 8) x)

-- the number in the w bits from `at` on
unfoldable pub field_at : List ℕ → ℕ → ℕ → ℕ
field_at bytes at zero = 0
field_at bytes at (suc w) = field_at bytes at w * 2 + bit_at bytes (at + w)

-- the bytes with v in the w bits from `at` on
unfoldable pub put_field : List ℕ → ℕ → ℕ → ℕ → List ℕ
put_field bytes at zero v = bytes
put_field bytes at (suc w) v = put_field (set_bit bytes (at + w) (v % 2)) at w (v / 2)
