-- "Decimal ... no leading zero but 0 itself, one space between": a number, and a row of numbers, as text.
use Rattle.std.specs.Prelude.{ℕ, zero, suc, ◌+◌, ◌/◌, ◌%◌, cond, List, [], ◌∷◌, ◌++◌, ltb}

-- the byte of a digit
abbrev pub glyph : ℕ → ℕ
glyph digit = 48 + digit

-- a number of at most so many digits: its last digit stands behind the number of the digits before it
unfoldable pub digits : ℕ → ℕ → List ℕ
digits zero n = []
digits (suc most) n = cond (ltb n 10) (glyph n ∷ []) (digits most (n / 10) ++ (glyph (n % 10) ∷ []))

-- 20 digits hold every number of 64 bits
abbrev pub decimal : ℕ → List ℕ
decimal n = digits 20 n

-- each number behind one space
unfoldable pub spaced_all : List ℕ → List ℕ
spaced_all [] = []
spaced_all (n ∷ rest) = 32 ∷ (decimal n ++ spaced_all rest)
