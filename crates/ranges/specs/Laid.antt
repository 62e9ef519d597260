-- A list given place by place, and a row whose first places are so given: what a loop leaves that stores one place after the other.
use Rattle.std.specs.Prelude.{ℕ, zero, suc, List, [], ◌∷◌, ◌++◌, drop}

-- f 0, f 1, .. up to n of them
unfoldable pub built : (ℕ → ℕ) → ℕ → List ℕ
built f zero = []
built f (suc n) = built f n ++ (f n ∷ [])

-- a row with these at its first n places
abbrev pub laid : (ℕ → ℕ) → ℕ → List ℕ → List ℕ
laid f n row = built f n ++ drop n row
