-- What listing answers.
use Rattle.std.specs.Prelude.{ℕ, Result, Ok, Err}
use Rattle.causes.specs.declared.Refusal.{Refusal}
use Rattle.causes.specs.Numbers.{number_of}

-- how many rows it laid, or the number of the refusal
pub data Listed : Type 0 where
  Rows : ℕ → Listed
  Refused : ℕ → Listed

-- what a function returns, as such an answer
abbrev pub listed_by : Result ℕ Refusal → Listed
listed_by (Ok rows) = Rows rows
listed_by (Err r) = Refused (number_of r)
