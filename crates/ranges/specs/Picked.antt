-- A loop that takes a turn only for the numbers that pass a test, as for the stations of a mask; over all numbers where each passes.
use Rattle.std.specs.Prelude.{ℕ, Bool, cond, List, set}
use Rattle.ranges.specs.Turns.{turns}

-- turn i where i passes, nothing where it does not
abbrev pub picked : {A : Type 0} → (ℕ → Bool) → (ℕ → A → A) → ℕ → A → A
picked p f i x = cond (p i) (f i x) x

-- a row gets a word at each place below k that passes; what it has at the others stays
abbrev pub laid_over : (ℕ → Bool) → (ℕ → ℕ) → ℕ → List ℕ → List ℕ
laid_over wanted word k row = turns (picked wanted (λ i xs. set xs i (word i))) k row
