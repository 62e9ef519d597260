-- The last digits of a number, for a printer that goes by several digits a time. Nothing here is to believe: the laws tie it to `decimal`.
use Rattle.std.specs.Prelude.{ℕ, zero, suc, ◌/◌, ◌%◌, List, [], ◌∷◌, ◌++◌}
use Rattle.schedule.specs.Decimal.{glyph}

-- the last digits of a number, so many, with zeros in front where it has fewer
unfoldable pub last_digits : ℕ → ℕ → List ℕ
last_digits zero n = []
last_digits (suc count) n = last_digits count (n / 10) ++ (glyph (n % 10) ∷ [])
