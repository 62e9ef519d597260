-- Laws of equal bytes.
use Rattle.std.specs.Prelude.{◌≡◌, refl, ℕ, ◌+◌, ◌≤◌, ◌<◌, List, [], ◌∷◌, true, false, ◌&&◌, length, get_or, drop}
use Rattle.std.proofs.Common.{sym, ◌∙◌, arith, add-one, true≢false, drop_of_length-le, drop-cons, eqb-true, eq-eqb, ne_eqb}
use Rattle.std.proofs.Math.Path.{ap, ap₂}
use Rattle.std.proofs.Math.Dec.{eqb}
use lib.Pointwise.{pointwise}
use Rattle.ranges.specs.Tests.{by-test, both_left, both_right}
use Rattle.recordings.specs.Comparing.{same}

pub same-equal : (xs ys : List ℕ) → same xs ys ≡ true → xs ≡ ys
unfolding same
same-equal [] [] e = refl
same-equal [] (y ∷ ys) e = absurd (true≢false (sym e))
same-equal (x ∷ xs) [] e = absurd (true≢false (sym e))
same-equal (x ∷ xs) (y ∷ ys) e =
    ap₂ (λ (a : ℕ) (b : List ℕ). a ∷ b) (eqb-true x y (both_left _ _ e)) (same-equal xs ys (both_right (eqb x y) _ e))

pub same_self : (xs : List ℕ) → same xs xs ≡ true
unfolding same
same_self [] = refl
same_self (x ∷ xs) = rw (eq-eqb x x refl) (same_self xs)

pub same-swapped : (xs ys : List ℕ) → same xs ys ≡ same ys xs
same-swapped xs ys =
    by-test (same xs ys)
    (λ e. e ∙ sym (ap (λ (l : List ℕ). same ys l) (same-equal xs ys e) ∙ same_self ys))
    (λ e. by-test (same ys xs)
    (λ d. absurd (true≢false (sym (ap (λ (l : List ℕ). same xs l) (same-equal ys xs d) ∙ same_self xs) ∙ e)))
    (λ d. e ∙ sym d))

-- the same is what the library's comparing of two slices finds
pub pointwise-same : (xs ys : List ℕ) → pointwise eqb xs ys ≡ same xs ys
unfolding same
pointwise-same [] [] = refl
pointwise-same [] (y ∷ ys) = refl
pointwise-same (x ∷ xs) [] = refl
pointwise-same (x ∷ xs) (y ∷ ys) = ap (λ b. eqb x y && b) (pointwise-same xs ys)
