-- Laws of keys as numbers, and of their equality test.
use Rattle.std.specs.Prelude.{ℕ, ◌+◌, ◌*◌, ◌/◌, ◌%◌, ◌<◌, ◌≡◌, refl, true, eqb}
use Rattle.std.proofs.Common.{arith, eq-eqb, eqb-true}
use Rattle.ranges.specs.Tests.{both_left, both_right}
use Rattle.keys.specs.declared.Key.{Key}
use Rattle.keys.specs.Keys.{same_key, key_word, key_at_word, FitsByte}

-- a key made a number is the key again, and a number made a key the number
pub word_back : (k : Key) → FitsByte k → key_at_word (key_word k) ≡ k
word_back k f =
    let a : (k.count * 256 + k.client) / 256 % 256 ≡ k.count = omega arith in
    let b : (k.count * 256 + k.client) % 256 ≡ k.client = omega arith in
    rw (a, b)

pub key_back : (w : ℕ) → w < 65536 → key_word (key_at_word w) ≡ w
key_back w h = omega arith

pub at-word-fits : (w : ℕ) → FitsByte (key_at_word w)
at-word-fits w = record { count = omega arith; client = omega arith }

-- equality of keys is equality of their numbers
pub word-one : (k l : Key) → FitsByte k → FitsByte l → key_word k ≡ key_word l → k ≡ l
word-one k l f g e =
    let a : k.count ≡ l.count = omega arith in
    let b : k.client ≡ l.client = omega arith in
    λ i. record { count = a i; client = b i }

-- the equality test tells equality
pub same_true : (k l : Key) → same_key k l ≡ true → k ≡ l
same_true k l e =
    let a : k.count ≡ l.count = eqb-true _ _ (both_left _ _ e) in
    let b : k.client ≡ l.client = eqb-true _ _ (both_right (eqb k.count l.count) _ e) in
    λ i. record { count = a i; client = b i }

pub same_refl : (k : Key) → same_key k k ≡ true
same_refl k = rw (eq-eqb k.count k.count refl, eq-eqb k.client k.client refl)
