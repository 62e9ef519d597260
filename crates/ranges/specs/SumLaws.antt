-- Laws of sums and counts.
use Prim.Native.Nat.{ℕ, zero, suc, ◌+◌, ◌*◌, ◌≤◌, ◌<◌}
use Rattle.std.specs.Prelude.{◌≡◌, Bool, true, false, not}
use Rattle.std.proofs.Math.Path.{refl}
use Rattle.std.proofs.Common.{suc-mul, add-one}
use native.Mathlib.Omega.{arith}
use Rattle.ranges.specs.Tests.{by_equal, by-test}
use Rattle.ranges.specs.Sum.{sum_below, one, count_below}

module _ (f : ℕ → ℕ) where
  pub sum-none : sum_below f 0 ≡ 0
  unfolding sum_below
  sum-none = refl

  pub sum_more : (n : ℕ) → sum_below f (n + 1) ≡ sum_below f n + f n
  unfolding sum_below
  sum_more n = rw (add-one n)

  -- a part is at most the sum
  pub sum-part : (n j : ℕ) → j < n → f j ≤ sum_below f n
  unfolding sum_below
  sum-part zero j h = omega arith
  sum-part (suc n) j h = by_equal j n (λ e. rw e (omega arith)) (λ d. omega (arith, sum-part n j (omega arith)))

  -- each part at most b: the sum at most n times b
  pub sum-most : (b n : ℕ) → ((i : ℕ) → i < n → f i ≤ b) → sum_below f n ≤ n * b
  unfolding sum_below
  sum-most b zero h = omega arith
  sum-most b (suc n) h = rw (suc-mul n b) (omega (arith, sum-most b n (λ i l. h i (omega arith)), h n (omega arith)))

  -- a sum of nothing but 0
  pub sum-zero : (n : ℕ) → sum_below f n ≡ 0 → (i : ℕ) → i < n → f i ≡ 0
  sum-zero n e i h = omega (arith, sum-part n i h)

module _ (f g : ℕ → ℕ) where
  pub sum_same : (n : ℕ) → ((i : ℕ) → i < n → f i ≡ g i) → sum_below f n ≡ sum_below g n
  unfolding sum_below
  sum_same zero h = refl
  sum_same (suc n) h = rw (sum_same n (λ i l. h i (omega arith)), h n (omega arith))

-- a sum taken in two parts
pub sum-add : (f g h : ℕ → ℕ) (n : ℕ) → ((i : ℕ) → i < n → h i ≡ f i + g i) → sum_below h n ≡ sum_below f n + sum_below g n
unfolding sum_below
sum-add f g h zero e = refl
sum-add f g h (suc n) e = omega (arith, sum-add f g h n (λ i l. e i (omega arith)), e n (omega arith))

-- where each part is 0, the sum is
pub sum-nothing : (f : ℕ → ℕ) (n : ℕ) → ((i : ℕ) → i < n → f i ≡ 0) → sum_below f n ≡ 0
unfolding sum_below
sum-nothing f zero e = refl
sum-nothing f (suc n) e = omega (arith, sum-nothing f n (λ i l. e i (omega arith)), e n (omega arith))

-- what passes and what fails are all
pub count-both : (p : ℕ → Bool) (n : ℕ) → count_below (λ i. not (p i)) n + count_below p n ≡ n
unfolding sum_below
count-both p zero = refl
count-both p (suc n) = by-test (p n) (λ e. rw e (omega (arith, count-both p n))) (λ e. rw e (omega (arith, count-both p n)))

-- one place set: the sum moves by what that place moves
pub sum-set : (f g : ℕ → ℕ) (n j : ℕ) → j < n → ((i : ℕ) → i < n → (i ≡ j → ⊥) → f i ≡ g i) → sum_below f n + g j ≡ sum_below g n + f j
unfolding sum_below
sum-set f g zero j h d = let z : ⊥ = omega arith in absurd z
sum-set f g (suc n) j h d =
    by_equal j n
    (λ e. let s : sum_below f n ≡ sum_below g n = sum_same f g n (λ i l. d i (omega arith) (λ z. omega arith)) in rw (s, e) (omega arith))
    (λ e. let s : sum_below f n + g j ≡ sum_below g n + f j = sum-set f g n j (omega arith) (λ i l z. d i (omega arith) z) in
    let t : f n ≡ g n = d n (omega arith) (λ z. e (omega arith)) in
    omega arith)

-- what a test counts for
pub one-true : {b : Bool} → b ≡ true → one b ≡ 1
one-true e = rw e

pub one-false : {b : Bool} → b ≡ false → one b ≡ 0
one-false e = rw e

pub one-most : (b : Bool) → one b ≤ 1
one-most true = omega arith
one-most false = omega arith

module _ (p : ℕ → Bool) where
  -- at most n of n pass
  pub count_most : (n : ℕ) → count_below p n ≤ n
  count_most n = omega (arith, sum-most (λ i. one (p i)) 1 n (λ i l. one-most (p i)))

  -- one number more, as a loop that counts meets it
  pub count-zero : count_below p 0 ≡ 0
  count-zero = sum-none (λ i. one (p i))

  pub count-here : (n : ℕ) → p n ≡ true → count_below p (n + 1) ≡ count_below p n + 1
  count-here n e = rw (sum_more (λ i. one (p i)) n, one-true e)

  pub count_past : (n : ℕ) → p n ≡ false → count_below p (n + 1) ≡ count_below p n
  count_past n e = rw (sum_more (λ i. one (p i)) n, one-false e) (omega arith)
