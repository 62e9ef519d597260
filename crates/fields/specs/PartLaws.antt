-- Laws of a part of a byte: two parts side by side are one, and a part is its bits.
use Rattle.std.specs.Prelude.{◌≡◌, ℕ, ◌+◌, ◌-◌, ◌*◌, ◌/◌, ◌%◌, ◌^◌, ◌≤◌, ◌<◌, List, leb, length, get_or, set}
use Rattle.std.proofs.Common.{sym, ap, ap₂, ◌∙◌, mod-lt, mod-eq_of_lt, div-one, pow-add, pow_pos, shr-shr, length-set, get_or-set_same, set-set, leb-true, leb-false}
use Rattle.std.proofs.Math.Nat.{pow-zero, mod-one}
use native.Mathlib.Omega.{arith}
use Rattle.std.proofs.Math.Arith.{digits_lt}
use Rattle.std.proofs.Math.Pow as pow
use Rattle.std.proofs.lemmas.Nat.{mod-pow-add}
use Rattle.std.proofs.lemmas.List.{set-get_or}
use Rattle.std.proofs.Math.Seq.{set_out}
use Rattle.ranges.specs.Tests.{by-test}
use Rattle.fields.specs.Bits.{bit_of, with_bit}
use Rattle.fields.specs.BitLaws.{bit_is, with_is}
use Rattle.fields.specs.Parts.{part_at, with_part, put_part}

-- ---- reading

module _ (bytes : List ℕ) (p : ℕ) where
  -- the bits behind a part may go first
  part_is : (w k : ℕ) → part_at bytes p w k ≡ get_or bytes p 0 / 2 ^ k % 2 ^ w
  unfolding part_at
  part_is w k = pow.field (get_or bytes p 0) w k

  -- two parts side by side
  pub part_join : (a b k : ℕ) → part_at bytes p (a + b) k ≡ part_at bytes p a (b + k) * 2 ^ b + part_at bytes p b k
  part_join a b k =
      let x = get_or bytes p 0 in
      part_is (a + b) k
      ∙ mod-pow-add (x / 2 ^ k) a b
      ∙ ap₂ (λ (m n : ℕ). m * 2 ^ b + n)
      (ap (λ (m : ℕ). m % 2 ^ a) (shr-shr x k b ∙ ap (λ (n : ℕ). x / 2 ^ n) (omega arith)) ∙ sym (part_is a (b + k)))
      (sym (part_is b k))

  -- one bit is a part
  pub part_bit : (k : ℕ) → part_at bytes p 1 k ≡ bit_of (get_or bytes p 0) k
  part_bit k = part_is 1 k ∙ sym (bit_is k (get_or bytes p 0))

  pub part_none : (k : ℕ) → part_at bytes p 0 k ≡ 0
  part_none k = part_is 0 k ∙ ap (λ (m : ℕ). get_or bytes p 0 / 2 ^ k % m) (pow-zero 2) ∙ mod-one (get_or bytes p 0 / 2 ^ k)

  pub part-below : (w k : ℕ) → part_at bytes p w k < 2 ^ w
  part-below w k = rw (part_is w k) (mod-lt (get_or bytes p 0 / 2 ^ k) (pow_pos w))

  -- ---- as they are followed in the listing: the first part, a whole byte, the last part

  pub first_part : (free : ℕ) → part_at bytes p free 0 ≡ get_or bytes p 0 % 2 ^ free
  first_part free = part_is free 0 ∙ rw (pow-zero 2, div-one (get_or bytes p 0))

  pub whole_byte : get_or bytes p 0 < 256 → part_at bytes p 8 0 ≡ get_or bytes p 0
  whole_byte h = first_part 8 ∙ mod-eq_of_lt h

  pub last-part : (left : ℕ) → left ≤ 8 → get_or bytes p 0 < 256 → part_at bytes p left (8 - left) ≡ get_or bytes p 0 / 2 ^ (8 - left)
  last-part left l h =
      let s : 8 ≡ left + (8 - left) = omega arith in
      part_is left (8 - left) ∙ pow.shr_mod left (8 - left) (rw (← s) h)

-- ---- writing

module _ (x w k v : ℕ) where
  -- what is put, with the bits behind it, is a number of so many bits
  low_below : v % 2 ^ w * 2 ^ k + x % 2 ^ k < 2 ^ (w + k)
  low_below = rw (pow-add 2 w k) (digits_lt (mod-lt v (pow_pos w)) (mod-lt x (pow_pos k)))

  with_is_high : with_part x w k v ≡ x / 2 ^ (w + k) * 2 ^ (w + k) + (v % 2 ^ w * 2 ^ k + x % 2 ^ k)
  unfolding with_part
  with_is_high = omega arith

  with_high : with_part x w k v / 2 ^ (w + k) ≡ x / 2 ^ (w + k)
  with_high = ap (λ (m : ℕ). m / 2 ^ (w + k)) with_is_high ∙ pow.high (x / 2 ^ (w + k)) (w + k) low_below

  with_low : with_part x w k v % 2 ^ (w + k) ≡ v % 2 ^ w * 2 ^ k + x % 2 ^ k
  with_low = ap (λ (m : ℕ). m % 2 ^ (w + k)) with_is_high ∙ pow.low (x / 2 ^ (w + k)) (w + k) low_below

-- numbers alike above n bits are alike further above
high_alike : (x y a n : ℕ) → y / 2 ^ n ≡ x / 2 ^ n → y / 2 ^ (a + n) ≡ x / 2 ^ (a + n)
high_alike x y a n e =
    let s : a + n ≡ n + a = omega arith in
    rw s (sym (shr-shr y n a) ∙ ap (λ (m : ℕ). m / 2 ^ a) e ∙ shr-shr x n a)

-- the bits of v, taken as two numbers
two-parts : (a b k v : ℕ) → v % 2 ^ (a + b) * 2 ^ k ≡ v / 2 ^ b % 2 ^ a * 2 ^ (b + k) + v % 2 ^ b * 2 ^ k
two-parts a b k v = rw (mod-pow-add v a b, pow-add 2 b k) (omega arith)

-- two parts side by side: the lowest bits go into the part behind
pub with_join : (x a b k v : ℕ) → with_part x (a + b) k v ≡ with_part (with_part x b k v) a (b + k) (v / 2 ^ b)
with_join x a b k v =
    let y = with_part x b k v in
    let s : a + b + k ≡ a + (b + k) = omega arith in
    let h : y / 2 ^ (a + (b + k)) ≡ x / 2 ^ (a + (b + k)) = high_alike x y a (b + k) (with_high x b k v) in
    rw (with_is_high x (a + b) k v, with_is_high y a (b + k) (v / 2 ^ b), h, with_low x b k v, two-parts a b k v, s) (omega arith)

-- one bit is a part
pub with_bit_lem : (x k v : ℕ) → with_part x 1 k v ≡ with_bit x k (v % 2)
with_bit_lem x k v =
    let s : x / 2 ^ (1 + k) * 2 ^ (1 + k) + x % 2 ^ (1 + k) ≡ x = pow.split x (1 + k) in
    let m : x % 2 ^ (1 + k) ≡ bit_of x k * 2 ^ k + x % 2 ^ k = rw (bit_is k x) (mod-pow-add x 1 k) in
    rw (with_is_high x 1 k v) (omega (arith, with_is k x (v % 2)))

pub with_none : (x k v : ℕ) → with_part x 0 k v ≡ x
with_none x k v =
    let z : 0 + k ≡ k = omega arith in
    rw (with_is_high x 0 k v, pow-zero 2, mod-one v, z) (omega (arith, pow.split x k))

-- a byte stays a byte
pub with-part-below : (x w k v n : ℕ) → w + k ≤ n → x < 2 ^ n → with_part x w k v < 2 ^ n
with-part-below x w k v n h l =
    let s : n ≡ n - (w + k) + (w + k) = omega arith in
    let l' : x < 2 ^ (n - (w + k) + (w + k)) = rw s at l in
    rw (with_is_high x w k v, s, pow-add 2 (n - (w + k)) (w + k)) (digits_lt (pow.shr_lt (n - (w + k)) (w + k) l') (low_below x w k v))

-- ---- as they are followed in the listing: the first part, a whole byte, the last part

pub first_with : (x free v : ℕ) → x / 2 ^ free * 2 ^ free + v % 2 ^ free ≡ with_part x free 0 v
first_with x free v =
    let z : free + 0 ≡ free = omega arith in
    sym (rw (with_is_high x free 0 v, z, pow-zero 2, mod-one x) (omega arith))

pub byte_with : (x v : ℕ) → x < 256 → v % 256 ≡ with_part x 8 0 v
byte_with x v h = omega (arith, first_with x 8 v)

pub last_with : (x left v : ℕ) → left ≤ 8 → x < 256 → v % 2 ^ left * 2 ^ (8 - left) + x % 2 ^ (8 - left) ≡ with_part x left (8 - left) v
last_with x left v l h =
    let s : left + (8 - left) ≡ 8 = omega arith in
    sym (rw (with_is_high x left (8 - left) v, s) (omega arith))

-- ---- writing, in a row of bytes

-- two parts of one byte are put one by one, or both at once; behind the end nothing is put
pub put-parts : (bytes : List ℕ) (p a b k v : ℕ) → put_part bytes p (a + b) k v ≡ put_part (put_part bytes p b k v) p a (b + k) (v / 2 ^ b)
unfolding put_part
put-parts bytes p a b k v =
    let x = get_or bytes p 0 in
    sym
    (set-set bytes p _ _
    ∙ by-test (leb (length bytes) p)
    (λ out. let h = leb-true _ _ out in set_out bytes p _ h ∙ sym (set_out bytes p _ h))
    (λ in'.
    ap (λ (y : ℕ). set bytes p (with_part y a (b + k) (v / 2 ^ b))) (get_or-set_same bytes p (with_part x b k v) 0 (leb-false _ _ in'))
    ∙ ap (set bytes p) (sym (with_join x a b k v))))

-- no bits, nothing put
pub put-nothing : (bytes : List ℕ) (p k v : ℕ) → put_part bytes p 0 k v ≡ bytes
unfolding put_part
put-nothing bytes p k v = ap (set bytes p) (with_none (get_or bytes p 0) k v) ∙ set-get_or bytes p 0

pub length-put_part : (bytes : List ℕ) (p w k v : ℕ) → length (put_part bytes p w k v) ≡ length bytes
unfolding put_part
length-put_part bytes p w k v = length-set bytes p _
