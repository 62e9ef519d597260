-- "A key is (count, panel)." A panel is a client here.
use Rattle.std.specs.Prelude.{ℕ, ◌+◌, ◌*◌, ◌/◌, ◌%◌, ◌<◌, Bool, ◌&&◌, eqb}
use Rattle.keys.specs.declared.Key.{Key}

abbrev pub key_of : ℕ → ℕ → Key
key_of n q = record { count = n; client = q }

-- "the opening's own key is (0, 0)"
abbrev pub opening : Key
opening = key_of 0 0

abbrev pub same_key : Key → Key → Bool
same_key k l = eqb k.count l.count && eqb k.client l.client

-- a key as one number: 256 times the count, and the client
abbrev pub key_word : Key → ℕ
key_word k = k.count * 256 + k.client

abbrev pub key_at_word : ℕ → Key
key_at_word w = key_of (w / 256 % 256) (w % 256)

-- a key whose count and client fit a byte each
pub record FitsByte (k : Key) : Type 0 where
  pub count : k.count < 256
  pub client : k.client < 256
