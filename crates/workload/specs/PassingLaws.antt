-- The numbers that pass, as a loop notes them one behind the other.
use Prim.Native.Nat.{ℕ, zero, suc, ◌+◌, ◌≤◌, ◌<◌}
use Rattle.std.specs.Prelude.{◌≡◌, refl, Bool, true, false, get_or, ltb}
use Rattle.std.proofs.Common.{sym, add-one}
use mathlib.Core.List.{[], ◌∷◌, ◌++◌, append-nil}
use native.Mathlib.Omega.{arith}
use Rattle.std.proofs.Math.ListN.{length, length-append, get_or-append}
use Rattle.std.proofs.Math.Seq.{get_or-append_seam}
use borrow.Author.Tests.{ltb-true, ltb-false}
use Rattle.ranges.specs.Tests.{by-test, by_equal}
use Rattle.workload.specs.Passing.{passing}

module _ (test : ℕ → Bool) where
  -- one number more
  pub passing-here : (n : ℕ) → test n ≡ true → passing test n ++ (n ∷ []) ≡ passing test (n + 1)
  unfolding passing
  passing-here n e = rw (add-one n, e)

  pub passing-past : (n : ℕ) → test n ≡ false → passing test n ≡ passing test (n + 1)
  unfolding passing
  passing-past n e = rw (add-one n, e) (sym (append-nil (passing test n)))

  pub passing_few : (n : ℕ) → length (passing test n) ≤ n
  unfolding passing
  passing_few zero = omega arith
  passing_few (suc n) =
      let few = passing_few n in
      by-test (test n)
      (λ e. rw e (omega (arith, few, length-append (passing test n) (n ∷ []))))
      (λ e. rw (e, append-nil (passing test n)) (omega (arith, few)))

-- tests that agree pass the same
pub passing-same : (f g : ℕ → Bool) → ((n : ℕ) → f n ≡ g n) → (n : ℕ) → passing f n ≡ passing g n
unfolding passing
passing-same f g e zero = refl
passing-same f g e (suc n) = rw (passing-same f g e n, e n)

module _ (test : ℕ → Bool) where
  -- each of those listed passes
  pub passing_at : (n i : ℕ) → i < length (passing test n) → test (get_or (passing test n) i 0) ≡ true
  unfolding passing
  passing_at zero i h = let z : ⊥ = omega arith in absurd z
  passing_at (suc n) i h =
      let front = passing test n in
      by-test (test n)
      (λ e. by-test (ltb i (length front))
      (λ l.
      let m : i < length front = ltb-true i (length front) l in
      rw (e, get_or-append front (n ∷ []) 0 i m) (passing_at n i m))
      (λ l.
      let m : i < length (front ++ (n ∷ [])) = rw e at h in
      let d : i ≡ length front = omega (arith, ltb-false i (length front) l, length-append front (n ∷ [])) in
      rw (e, d, get_or-append_seam front n [] 0) e))
      (λ e.
      let m : i < length front = rw (e, append-nil front) at h in
      rw (e, append-nil front) (passing_at n i m))

  -- where none is listed, none passes
  pub passing-none : (n : ℕ) → length (passing test n) ≡ 0 → (i : ℕ) → i < n → test i ≡ false
  unfolding passing
  passing-none zero e i h = let z : ⊥ = omega arith in absurd z
  passing-none (suc n) e i h =
      let front = passing test n in
      by-test (test n)
      (λ d.
      let m : length (front ++ (n ∷ [])) ≡ 0 = rw d at e in
      let z : ⊥ = omega (arith, m, length-append front (n ∷ [])) in absurd z)
      (λ d.
      let m : length front ≡ 0 = rw (d, append-nil front) at e in
      by_equal i n (λ f. rw f d) (λ f. passing-none n m i (omega arith)))
