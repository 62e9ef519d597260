-- "A line ends at byte 10 or at the end of the text; nothing behind the last byte 10 is no line."
use Rattle.std.specs.Prelude.{ℕ, ◌+◌, cond, List, [], ◌∷◌, length, drop, eqb}

-- the line at the front of a text: the bytes before the first byte 10, or all where there is none
unfoldable pub line_of : List ℕ → List ℕ
line_of [] = []
line_of (byte ∷ rest) = cond (eqb byte 10) [] (byte ∷ line_of rest)

-- where the line that begins at a place ends: its byte 10 stands there, or the text ends
abbrev pub end_of : List ℕ → ℕ → ℕ
end_of text start = start + length (line_of (drop start text))

-- a byte in front of the first of some lines; where there is none, it is a line of its own
abbrev pub on_first : ℕ → List (List ℕ) → List (List ℕ)
on_first byte [] = (byte ∷ []) ∷ []
on_first byte (line ∷ more) = (byte ∷ line) ∷ more

-- all lines of a text
unfoldable pub lines_of : List ℕ → List (List ℕ)
lines_of [] = []
lines_of (byte ∷ rest) = cond (eqb byte 10) ([] ∷ lines_of rest) (on_first byte (lines_of rest))
