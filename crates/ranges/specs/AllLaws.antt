-- Laws of all and any.
use Prim.Native.Nat.{ℕ, zero, suc, ◌+◌, ◌≤◌, ◌<◌}
use Rattle.std.specs.Prelude.{◌≡◌, Bool, true, false, not, ◌&&◌}
use Rattle.std.proofs.Math.Path.{refl}
use Rattle.std.proofs.Common.{sym, ◌∙◌, true≢false, add-one}
use Rattle.std.proofs.Math.Bool.{and-true, or-true, or-false}
use native.Mathlib.Omega.{arith}
use Rattle.ranges.specs.Tests.{by_equal, by-test, not-both, both, both_left, both_right, fails, holds}
use Rattle.ranges.specs.All.{all_below, any_below}

module _ (p : ℕ → Bool) where
  pub all_none : all_below p 0 ≡ true
  unfolding all_below
  all_none = refl

  pub all_more : (n : ℕ) → all_below p n ≡ true → p n ≡ true → all_below p (n + 1) ≡ true
  unfolding all_below
  all_more n a e = rw (add-one n, a, e)

  -- a number that passes changes nothing
  pub all_past : (n : ℕ) → p n ≡ true → all_below p (n + 1) ≡ all_below p n
  unfolding all_below
  all_past n e = rw (add-one n, e, and-true (all_below p n))

  -- where all pass, each does
  pub all_at : (n : ℕ) → all_below p n ≡ true → (i : ℕ) → i < n → p i ≡ true
  unfolding all_below
  all_at zero a i h = let z : ⊥ = omega arith in absurd z
  all_at (suc n) a i h =
      by_equal i n
      (λ e. rw e (both_right (all_below p n) (p n) a))
      (λ d. all_at n (both_left (all_below p n) (p n) a) i (omega arith))

  -- where each passes, all do
  pub all_of : (n : ℕ) → ((i : ℕ) → i < n → p i ≡ true) → all_below p n ≡ true
  unfolding all_below
  all_of zero h = refl
  all_of (suc n) h = both (all_below p n) (p n) (all_of n (λ i l. h i (omega arith))) (h n (omega arith))

  -- where one fails, not all pass
  pub all-not : (n i : ℕ) → i < n → p i ≡ false → all_below p n ≡ false
  all-not n i h e = by-test (all_below p n) (λ a. absurd (not-both (all_at n a i h) e)) (λ a. a)

  -- where not all pass, one fails
  pub all_fails : (n : ℕ) → all_below p n ≡ false → (i : ℕ) × (i < n) × (p i ≡ false)
  unfolding all_below
  all_fails zero a = absurd (true≢false a)
  all_fails (suc n) a =
      by-test (all_below p n)
      (λ b. (n, omega arith, rw b at a))
      (λ b. let f = all_fails n b in (f.0, omega arith, f.2))

  pub any_none : any_below p 0 ≡ false
  unfolding any_below
  any_none = refl

  pub any-more : (n : ℕ) → any_below p n ≡ false → p n ≡ false → any_below p (n + 1) ≡ false
  unfolding any_below
  any-more n a e = rw (add-one n, a, e)

  -- a number that fails changes nothing
  pub any_past : (n : ℕ) → p n ≡ false → any_below p (n + 1) ≡ any_below p n
  unfolding any_below
  any_past n e = rw (add-one n, e, or-false (any_below p n))

  pub any_at : (n i : ℕ) → i < n → p i ≡ true → any_below p n ≡ true
  unfolding any_below
  any_at zero i h e = let z : ⊥ = omega arith in absurd z
  any_at (suc n) i h e = by_equal i n (λ d. rw (rw d at e) (or-true (any_below p n))) (λ d. rw (any_at n i (omega arith) e))

  pub any_of : (n : ℕ) → any_below p n ≡ true → (i : ℕ) × (i < n) × (p i ≡ true)
  unfolding any_below
  any_of zero a = absurd (true≢false (sym a))
  any_of (suc n) a =
      by-test (any_below p n)
      (λ b. let f = any_of n b in (f.0, omega arith, f.2))
      (λ b. (n, omega arith, rw b at a))

-- A loop that asks a test of each number below n, as the code meets it: r is what it answered at i, and m how the definition names n.
module _ (p : ℕ → Bool) (i : ℕ) where
  -- the test passed at i
  pub all-next : {r : Bool} → all_below p i ≡ true → r ≡ p i → not r ≡ false → all_below p (i + 1) ≡ true
  all-next a d e = all_more p i a (holds d e)

  -- the test failed at i
  pub all_stop : {r : Bool} {n m : ℕ} → n ≡ m → i < n → r ≡ p i → not r ≡ true → false ≡ all_below p m
  all_stop {r} {n} {m} s h d e = sym (all-not p m i (omega arith) (fails d e))

  -- the loop came to its end
  pub all_end : {n m : ℕ} → n ≡ m → i ≤ n → n ≤ i → all_below p i ≡ true → true ≡ all_below p m
  all_end {n} {m} s h g a = let e : i ≡ m = omega arith in rw (← e) (sym a)

  -- and one that looks for a number that passes found none
  pub any-end : {n : ℕ} → i ≤ n → n ≤ i → any_below p i ≡ false → false ≡ any_below p n
  any-end {n} h g a = let e : i ≡ n = omega arith in rw (← e) (sym a)

-- A loop without an exit: what it has noted so far is whether the numbers below i pass, r what the test answered at i, and fit' what is noted
-- behind it.
module _ (p : ℕ → Bool) (i : ℕ) {r fit' : Bool} where
  pub noted_fails : r ≡ p i → not r ≡ true → fit' ≡ false → fit' ≡ all_below p (i + 1)
  noted_fails d e f = f ∙ sym (all-not p (i + 1) i (omega arith) (fails d e))

  pub noted_passes : {fit : Bool} → fit ≡ all_below p i → r ≡ p i → not r ≡ false → fit' ≡ fit → fit' ≡ all_below p (i + 1)
  noted_passes a d e f = f ∙ a ∙ sym (all_past p i (holds d e))

-- two tests in one
and_swap : (a b c d : Bool) → ((a && b) && (c && d)) ≡ ((a && c) && (b && d))
and_swap true true c d = refl
and_swap true false true d = refl
and_swap true false false d = refl
and_swap false b c d = refl

module _ (p q : ℕ → Bool) where
  pub all_both : (n : ℕ) → all_below (λ i. p i && q i) n ≡ (all_below p n && all_below q n)
  unfolding all_below
  all_both zero = refl
  all_both (suc n) = rw (all_both n) (and_swap (all_below p n) (all_below q n) (p n) (q n))

-- two tests that agree below n
module _ (p q : ℕ → Bool) where
  pub all_same : (n : ℕ) → ((i : ℕ) → i < n → p i ≡ q i) → all_below p n ≡ all_below q n
  unfolding all_below
  all_same zero h = refl
  all_same (suc n) h = rw (all_same n (λ i l. h i (omega arith)), h n (omega arith))

  pub any_same : (n : ℕ) → ((i : ℕ) → i < n → p i ≡ q i) → any_below p n ≡ any_below q n
  unfolding any_below
  any_same zero h = refl
  any_same (suc n) h = rw (any_same n (λ i l. h i (omega arith)), h n (omega arith))
