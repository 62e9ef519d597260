-- The first number below n that passes a test.
use Rattle.std.specs.Prelude.{ℕ, zero, suc, Bool, cond}

-- the first of the n numbers from a on that passes, and a + n where none does
unfoldable pub first_from : (ℕ → Bool) → ℕ → ℕ → ℕ
first_from p zero a = a
first_from p (suc n) a = cond (p a) a (first_from p n (suc a))

-- the first number below n that passes, and n where none does
abbrev pub first_below : (ℕ → Bool) → ℕ → ℕ
first_below p n = first_from p n 0
