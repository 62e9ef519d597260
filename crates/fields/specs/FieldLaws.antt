-- Laws of fields, for every width and place.
use Rattle.std.specs.Prelude.{◌≡◌, refl, ℕ, zero, suc, ◌+◌, ◌*◌, ◌/◌, ◌%◌, ◌^◌, ◌≤◌, ◌<◌, List, length}
use Rattle.std.proofs.Common.{sym, ap, ap₂, ◌∙◌, pow-suc, lt_of_lt_of_le, add-zero, add-suc, add_assoc, div-one, arith, pow_mono}
use Rattle.std.proofs.Math.Nat.{pow-succ', pow-zero, div-div-eq-div-mul}
use Rattle.ranges.specs.Tests.{by_equal}
use Rattle.fields.specs.Bits.{bit_at, set_bit, field_at, put_field}
use Rattle.fields.specs.BitLaws.{Bytes, bit_at-below, bit-set, bit-set_other, length-set_bit, set_bit_bytes}

-- a field of w bits is below 2 ^ w
pub field_below : (bytes : List ℕ) (at w : ℕ) → field_at bytes at w < 2 ^ w
unfolding field_at
field_below bytes at zero = rw (pow-zero 2) (omega arith)
field_below bytes at (suc w) = rw (pow-suc 2 w) (omega (arith, field_below bytes at w, bit_at-below bytes (at + w)))

pub field_small : (bytes : List ℕ) (at w k : ℕ) → w ≤ k → field_at bytes at w < 2 ^ k
field_small bytes at w k h = lt_of_lt_of_le (field_below bytes at w) (pow_mono h)

-- equal bits make equal fields
pub field-same : (b d : List ℕ) (at w : ℕ) → ((j : ℕ) → at ≤ j → j < at + w → bit_at b j ≡ bit_at d j) → field_at b at w ≡ field_at d at w
unfolding field_at
field-same b d at zero e = refl
field-same b d at (suc w) e =
    ap₂ (λ (x y : ℕ). x * 2 + y) (field-same b d at w (λ j h l. e j h (omega arith))) (e (at + w) (omega arith) (omega arith))

-- equal fields have equal bits
pub field_bits : (b d : List ℕ) (at w : ℕ) → field_at b at w ≡ field_at d at w → (j : ℕ) → at ≤ j → j < at + w → bit_at b j ≡ bit_at d j
unfolding field_at
field_bits b d at zero e j h l = let z : ⊥ = omega arith in absurd z
field_bits b d at (suc w) e j h l =
    let x : bit_at b (at + w) < 2 = bit_at-below b (at + w) in
    let y : bit_at d (at + w) < 2 = bit_at-below d (at + w) in
    by_equal j (at + w)
    (λ q. ap (bit_at b) q ∙ omega arith ∙ ap (bit_at d) (sym q))
    (λ m. field_bits b d at w (omega arith) j h (omega arith))

-- no bits, no field
pub field-zero : (bytes : List ℕ) (at w : ℕ) → ((j : ℕ) → at ≤ j → bit_at bytes j ≡ 0) → field_at bytes at w ≡ 0
unfolding field_at
field-zero bytes at zero z = refl
field-zero bytes at (suc w) z = omega (arith, field-zero bytes at w z, z (at + w) (omega arith))

pub length-put_field : (bytes : List ℕ) (at w v : ℕ) → length (put_field bytes at w v) ≡ length bytes
unfolding put_field
length-put_field bytes at zero v = refl
length-put_field bytes at (suc w) v =
    length-put_field (set_bit bytes (at + w) (v % 2)) at w (v / 2) ∙ length-set_bit bytes (at + w) (v % 2)

-- a put leaves every bit outside of its field
pub put_other : (bytes : List ℕ) (at w v j : ℕ) → at + w ≤ 8 * length bytes → (at ≤ j → j < at + w → ⊥) → bit_at (put_field bytes at w v) j ≡ bit_at bytes j
unfolding put_field
put_other bytes at zero v j h out = refl
put_other bytes at (suc w) v j h out =
    let l : length (set_bit bytes (at + w) (v % 2)) ≡ length bytes = length-set_bit bytes (at + w) (v % 2) in
    put_other (set_bit bytes (at + w) (v % 2)) at w (v / 2) j (omega arith) (λ p q. out p (omega arith))
    ∙ bit-set_other bytes (at + w) (v % 2) (omega arith) (omega arith) j (λ (e : j ≡ at + w). out (omega arith) (omega arith))

-- what is put is found
pub put-found : (bytes : List ℕ) (at w v : ℕ) → at + w ≤ 8 * length bytes → v < 2 ^ w → field_at (put_field bytes at w v) at w ≡ v
unfolding put_field field_at
put-found bytes at zero v h l = omega (arith, rw (pow-zero 2) at l)
put-found bytes at (suc w) v h l =
    let b = set_bit bytes (at + w) (v % 2) in
    let l' : v < 2 ^ w * 2 = rw (pow-suc 2 w) at l in
    let n : length b ≡ length bytes = length-set_bit bytes (at + w) (v % 2) in
    let p : field_at (put_field b at w (v / 2)) at w ≡ v / 2 = put-found b at w (v / 2) (omega arith) (omega arith) in
    let q : bit_at (put_field b at w (v / 2)) (at + w) ≡ v % 2 =
    put_other b at w (v / 2) (at + w) (omega arith) (λ p q. omega arith) ∙ bit-set bytes (at + w) (v % 2) (omega arith) (omega arith) in
    omega arith

pub put_bytes : (bytes : List ℕ) (at w v : ℕ) → Bytes bytes → Bytes (put_field bytes at w v)
unfolding put_field
put_bytes bytes at zero v h = h
put_bytes bytes at (suc w) v h =
    put_bytes (set_bit bytes (at + w) (v % 2)) at w (v / 2) (set_bit_bytes bytes (at + w) (v % 2) (omega arith) h)

-- two fields side by side are one: the first stands above the second
pub field_join : (bytes : List ℕ) (at a b : ℕ) → field_at bytes at (a + b) ≡ field_at bytes at a * 2 ^ b + field_at bytes (at + a) b
unfolding field_at
field_join bytes at a zero = rw (add-zero a, pow-zero 2) (omega arith)
field_join bytes at a (suc b) =
    rw (add-suc a b, field_join bytes at a b, pow-suc 2 b, add_assoc at a b) (omega arith)

-- and they are put one by one: the lowest bits go into the second
pub put_join : (bytes : List ℕ) (at a b v : ℕ) → put_field bytes at (a + b) v ≡ put_field (put_field bytes (at + a) b v) at a (v / 2 ^ b)
unfolding put_field
put_join bytes at a zero v = rw (add-zero a, pow-zero 2, div-one v)
put_join bytes at a (suc b) v =
    let rest = put_join (set_bit bytes (at + (a + b)) (v % 2)) at a b (v / 2) in
    rw (add-suc a b, rest, add_assoc at a b, div-div-eq-div-mul v 2 (2 ^ b), pow-succ' 2 b)
