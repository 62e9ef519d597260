-- Laws of the last number that passes a test.
use Prim.Native.Nat.{ℕ, zero, suc, ◌+◌, ◌≤◌, ◌<◌}
use Rattle.std.specs.Prelude.{◌≡◌, Bool, true, false}
use Rattle.std.proofs.Math.Path.{refl}
use native.Mathlib.Omega.{arith}
use Rattle.std.proofs.Common.{add-one}
use Rattle.ranges.specs.Tests.{by_equal, by-test, not-both}
use Rattle.ranges.specs.Last.{last_below}

module _ (p : ℕ → Bool) where
  pub last_none : last_below p 0 ≡ 0
  unfolding last_below
  last_none = refl

  pub last-here : (n : ℕ) → p n ≡ true → last_below p (n + 1) ≡ n
  unfolding last_below
  last-here n e = rw (add-one n, e)

  pub last-before : (n : ℕ) → p n ≡ false → last_below p (n + 1) ≡ last_below p n
  unfolding last_below
  last-before n e = rw (add-one n, e)

  -- it is below n, where n is not 0
  pub last-below : (n : ℕ) → 0 < n → last_below p n < n
  unfolding last_below
  last-below zero h = h
  last-below (suc n) h =
      by-test (p n)
      (λ e. rw e (omega arith))
      (λ e. rw e (by_equal n 0 (λ z. rw z (omega arith)) (λ z. omega (arith, last-below n (omega arith)))))

  -- none behind it passes
  pub last-behind : (n i : ℕ) → last_below p n < i → i < n → p i ≡ false
  unfolding last_below
  last-behind zero i g h = let z : ⊥ = omega arith in absurd z
  last-behind (suc n) i g h =
      by-test (p n)
      (λ e. let z : ⊥ = omega (arith, rw e at g) in absurd z)
      (λ e. by_equal i n (λ d. rw d e) (λ d. last-behind n i (rw e at g) (omega arith)))

  -- it passes, where any does
  pub last_passes : (n i : ℕ) → i < n → p i ≡ true → p (last_below p n) ≡ true
  unfolding last_below
  last_passes zero i h e = let z : ⊥ = omega arith in absurd z
  last_passes (suc n) i h e =
      by-test (p n)
      (λ d. rw d d)
      (λ d. rw d (last_passes n i (by_equal i n (λ z. absurd (not-both (rw z at e) d)) (λ z. omega arith)) e))

  -- what passes is at most the last
  pub last-most : (n i : ℕ) → i < n → p i ≡ true → i ≤ last_below p n
  unfolding last_below
  last-most zero i h e = let z : ⊥ = omega arith in absurd z
  last-most (suc n) i h e =
      by-test (p n)
      (λ d. rw d (omega arith))
      (λ d. rw d (last-most n i (by_equal i n (λ z. absurd (not-both (rw z at e) d)) (λ z. omega arith)) e))

pub last-same : (p q : ℕ → Bool) (n : ℕ) → ((i : ℕ) → i < n → p i ≡ q i) → last_below p n ≡ last_below q n
unfolding last_below
last-same p q zero h = refl
last-same p q (suc n) h = rw (last-same p q n (λ i l. h i (omega arith)), h n (omega arith))
