-- What the readers of numbers answer, and what they return, in these words.
use Rattle.std.specs.Prelude.{ℕ, cond, Option, Some, None, ltb}
use Rattle.schedule.specs.declared.Numeral.{Numeral}

-- A number at the front of a part of a line: its value, and how many bytes it takes.
pub data Number : Type 0 where
  Not : Number
  Value : ℕ → ℕ → Number

-- How many numbers a part of a line holds, where it holds nothing else.
pub data Numbers : Type 0 where
  Broken : Numbers
  All : ℕ → Numbers

-- what the readers return, in these words
abbrev pub number_by : Option Numeral → Number
number_by None = Not
number_by (Some n) = Value n.value n.size

abbrev pub numbers_by : Option ℕ → Numbers
numbers_by None = Broken
numbers_by (Some count) = All count

-- what is read of a byte: its worth, or that it is no digit
abbrev pub digit_read : ℕ → Option ℕ
digit_read worth = cond (ltb worth 10) (Some worth) None
