-- The sum of f over the numbers below n, and how many of them pass a test: a sum of ones.
use Rattle.std.specs.Prelude.{ℕ, zero, suc, ◌+◌, Bool, true, false}

unfoldable pub sum_below : (ℕ → ℕ) → ℕ → ℕ
sum_below f zero = 0
sum_below f (suc n) = sum_below f n + f n

-- what a number counts for: 1 where it passes
abbrev pub one : Bool → ℕ
one true = 1
one false = 0

abbrev pub count_below : (ℕ → Bool) → ℕ → ℕ
count_below p n = sum_below (λ i. one (p i)) n
