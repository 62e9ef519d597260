-- The line that asks for a load, `seed length method k p`: five numbers, one space between, as in the lines of a schedule.
use Rattle.std.specs.Prelude.{ℕ, cond, Option, None, Some, List, ◌∷◌, eqb, leb, length, get_or}
use Rattle.schedule.specs.Numbers.{Read, numbers_of}
use Rattle.schedule.specs.Steps.{line_most}
use Rattle.load_text.specs.declared.Wanted.{Wanted}

-- What a line asks for: no load, which is number 13, or the load that is wanted.
pub data Asked : Type 0 where
  Unreadable : Asked
  Load : Wanted → Asked

-- what the readers return, in these words
abbrev pub asked_for : Option Wanted → Asked
asked_for None = Unreadable
asked_for (Some w) = Load w

-- five numbers ask for a load; fewer or more do not
abbrev pub five_ask : List ℕ → Asked
five_ask l =
    cond (eqb (length l) 5)
    (Load (record { seed = get_or l 0 0; steps = get_or l 1 0; method = get_or l 2 0; servers = get_or l 3 0; clients = get_or l 4 0 }))
    Unreadable

abbrev pub asked_by : Read → Asked
asked_by read = cond read.whole (five_ask read.numbers) Unreadable

-- "lines of at most 200 bytes"; with a space ahead of it, each number of the line stands behind one
unfoldable pub asked_of : List ℕ → Asked
asked_of line = cond (leb (length line) line_most) (asked_by (numbers_of (32 ∷ line))) Unreadable
