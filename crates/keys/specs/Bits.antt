-- The bits of masks: what "and", "or", "and not" and "the first ones of" do to each.
use Prim.Native.Nat.{ℕ, zero, suc, ◌+◌, ◌-◌, ◌*◌, ◌/◌, ◌%◌, ◌^◌, ◌≤◌, ◌<◌, min, max}
use Rattle.std.specs.Prelude.{◌≡◌, refl, Bool, true, false, cond, not, ◌&&◌, ◌||◌, eqb}
use Rattle.std.proofs.Common.{sym, ap, ◌∙◌, div-one, mod-lt, pow_pos, pow_mono, eq-eqb, ne_eqb}
use Rattle.std.proofs.Math.Bool.{or-true, or-false}
use Rattle.std.proofs.Math.Nat.{pow-succ', div-div-eq-div-mul, zero-div, min-le_left}
use native.Mathlib.Omega.{arith}
use Rattle.std.proofs.Math.Dec.{eqb-suc-suc, eqb-zero-suc, eqb-suc-zero}
use Rattle.std.specs.Int.Bits.{bit_and, bit_or, and_step, or_step}
use Rattle.std.proofs.lemmas.Nat.{and_le_l}
use Rattle.std.proofs.Math.Pow.{field, mod-mod-pow}
use Rattle.ranges.specs.Tests.{by_equal}
use Rattle.ranges.specs.Turns.{turns}
use Rattle.ranges.specs.Picked.{picked}
use Rattle.keys.specs.Masks.{has_server}
use Rattle.keys.specs.MaskLaws.{no-server}

-- the servers of a mask that another does not have
abbrev pub without : ℕ → ℕ → ℕ
without a b = a - bit_and a b

-- the first bit is the lowest digit, and the others are those of the half
low_bit : (m : ℕ) → has_server m 0 ≡ eqb (m % 2) 1
low_bit m = ap (λ (x : ℕ). eqb (x % 2) 1) (div-one m)

high_bit : (m i : ℕ) → has_server m (suc i) ≡ has_server (m / 2) i
high_bit m i = ap (λ (x : ℕ). eqb (m / x % 2) 1) (pow-succ' 2 i) ∙ ap (λ (x : ℕ). eqb (x % 2) 1) (sym (div-div-eq-div-mul m 2 (2 ^ i)))

-- what holds of the digits 0 and 1 holds of any two
by_digits : (P : ℕ → ℕ → Type 0) → P 0 0 → P 0 1 → P 1 0 → P 1 1 → (a b : ℕ) → P (a % 2) (b % 2)
by_digits P p q r s a b = go (a % 2) (b % 2) (omega arith) (omega arith)
  where
    go : (x y : ℕ) → x < 2 → y < 2 → P x y
    go zero zero h g = p
    go zero (suc zero) h g = q
    go (suc zero) zero h g = r
    go (suc zero) (suc zero) h g = s
    go (suc (suc x)) y h g = let z : ⊥ = omega arith in absurd z
    go zero (suc (suc y)) h g = let z : ⊥ = omega arith in absurd z
    go (suc zero) (suc (suc y)) h g = let z : ⊥ = omega arith in absurd z

-- An operation on two masks goes digit by digit, and f is what it does to a bit.
module _ (op dig : ℕ → ℕ → ℕ) (f : Bool → Bool → Bool)
    (half : (a b : ℕ) → op a b / 2 ≡ op (a / 2) (b / 2)) (lowest : (a b : ℕ) → op a b % 2 ≡ dig (a % 2) (b % 2))
    (one : (a b : ℕ) → eqb (dig (a % 2) (b % 2)) 1 ≡ f (eqb (a % 2) 1) (eqb (b % 2) 1)) where
  op_bit : (a b i : ℕ) → has_server (op a b) i ≡ f (has_server a i) (has_server b i)
  op_bit a b zero = low_bit (op a b) ∙ ap (λ (x : ℕ). eqb x 1) (lowest a b) ∙ one a b ∙ rw (low_bit a, low_bit b)
  op_bit a b (suc i) = high_bit (op a b) i ∙ ap (λ (x : ℕ). has_server x i) (half a b) ∙ op_bit (a / 2) (b / 2) i ∙ rw (high_bit a i, high_bit b i)

-- a digit that "and" or "or" leaves
small-and : (a b : ℕ) → min (a % 2) (b % 2) < 2
small-and = by_digits (λ x y. min x y < 2) (omega arith) (omega arith) (omega arith) (omega arith)

small-or : (a b : ℕ) → max (a % 2) (b % 2) < 2
small-or = by_digits (λ x y. max x y < 2) (omega arith) (omega arith) (omega arith) (omega arith)

pub and_bit : (a b i : ℕ) → has_server (bit_and a b) i ≡ (has_server a i && has_server b i)
and_bit =
    op_bit bit_and min (λ x y. x && y)
    (λ a b. omega (arith, and_step a b, small-and a b))
    (λ a b. omega (arith, and_step a b, small-and a b))
    (by_digits (λ x y. eqb (min x y) 1 ≡ (eqb x 1 && eqb y 1)) refl refl refl refl)

pub or_bit : (a b i : ℕ) → has_server (bit_or a b) i ≡ (has_server a i || has_server b i)
or_bit =
    op_bit bit_or max (λ x y. x || y)
    (λ a b. omega (arith, or_step a b, small-or a b))
    (λ a b. omega (arith, or_step a b, small-or a b))
    (by_digits (λ x y. eqb (max x y) 1 ≡ (eqb x 1 || eqb y 1)) refl refl refl refl)

pub without_bit : (a b i : ℕ) → has_server (without a b) i ≡ (has_server a i && not (has_server b i))
without_bit =
    op_bit without (λ x y. x - min x y) (λ x y. x && not y)
    (λ a b. omega (arith, and_step a b, and_le_l (a / 2) (b / 2), min-le_left (a % 2) (b % 2)))
    (λ a b. omega (arith, and_step a b, and_le_l (a / 2) (b / 2), min-le_left (a % 2) (b % 2)))
    (by_digits (λ x y. eqb (x - min x y) 1 ≡ (eqb x 1 && not (eqb y 1))) refl refl refl refl)

-- the empty mask, and the mask of one server
pub no_bit : (i : ℕ) → has_server 0 i ≡ false
no_bit i = ap (λ (x : ℕ). eqb (x % 2) 1) (zero-div (2 ^ i))

pub one_bit : (s i : ℕ) → has_server (2 ^ s) i ≡ eqb s i
one_bit zero zero = refl
one_bit zero (suc i) = high_bit 1 i ∙ no_bit i ∙ sym (eqb-zero-suc i)
one_bit (suc s) zero = low_bit (2 ^ suc s) ∙ (let e : 2 ^ suc s % 2 ≡ 0 = omega (arith, pow-succ' 2 s) in ap (λ (x : ℕ). eqb x 1) e) ∙ sym (eqb-suc-zero s)
one_bit (suc s) (suc i) = high_bit (2 ^ suc s) i ∙ (let e : 2 ^ suc s / 2 ≡ 2 ^ s = omega (arith, pow-succ' 2 s) in ap (λ (x : ℕ). has_server x i) e) ∙ one_bit s i ∙ sym (eqb-suc-suc s i)

-- the first k servers of a mask
pub first_bit : (m k i : ℕ) → i < k → has_server (m % 2 ^ k) i ≡ has_server m i
first_bit m k i h =
    let e : k ≡ k - i - 1 + 1 + i = omega arith in
    ap (λ (x : ℕ). eqb (m % 2 ^ x / 2 ^ i % 2) 1) e ∙ ap (λ (x : ℕ). eqb (x % 2) 1) (field m (k - i - 1 + 1) i) ∙ ap (λ (x : ℕ). eqb x 1) (mod-mod-pow (m / 2 ^ i) (k - i - 1) 1)

pub beyond_bit : (m k i : ℕ) → k ≤ i → has_server (m % 2 ^ k) i ≡ false
beyond_bit m k i h = no-server (m % 2 ^ k) k i (mod-lt m (pow_pos k)) h

-- the mask of one server as the code makes it: a shift by at most 16 loses no bit
pub shifted_one : (k : ℕ) → k ≤ 16 → (1 * 2 ^ k) % 4294967296 ≡ 2 ^ k
shifted_one k h = let l : 2 ^ k ≤ 65536 = pow_mono h in omega arith

-- a mask of the first n servers that pass a test
abbrev pub add_server : ℕ → ℕ → ℕ
add_server i mask = bit_or mask (2 ^ i)

abbrev pub gathered : (ℕ → Bool) → ℕ → ℕ
gathered p n = turns (picked p add_server) n 0

module _ (p : ℕ → Bool) (i : ℕ) where
  other-gathered : (b : Bool) (s m : ℕ) → (s ≡ i → ⊥) → has_server (cond b (add_server s m) m) i ≡ has_server m i
  other-gathered true s m d = or_bit m (2 ^ s) i ∙ rw (one_bit s i, ne_eqb s i d) (or-false _)
  other-gathered false s m d = refl

  gathered-ahead : (n : ℕ) → n ≤ i → has_server (gathered p n) i ≡ false
  unfolding turns
  gathered-ahead zero h = no_bit i
  gathered-ahead (suc n) h = other-gathered (p n) n (gathered p n) (λ z. omega arith) ∙ gathered-ahead n (omega arith)

  here-gathered : (b : Bool) (m : ℕ) → has_server m i ≡ false → has_server (cond b (add_server i m) m) i ≡ b
  here-gathered true m e = or_bit m (2 ^ i) i ∙ rw (one_bit i i, eq-eqb i i refl) (or-true (has_server m i))
  here-gathered false m e = e

  pub gathered_bit : (n : ℕ) → i < n → has_server (gathered p n) i ≡ p i
  unfolding turns
  gathered_bit zero h = let z : ⊥ = omega arith in absurd z
  gathered_bit (suc n) h =
      by_equal n i
      (λ d. rw d (here-gathered (p i) (gathered p i) (gathered-ahead i (omega arith))))
      (λ d. other-gathered (p n) n (gathered p n) d ∙ gathered_bit n (omega arith))
