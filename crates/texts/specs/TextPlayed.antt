-- What playing a text answers.
use Rattle.std.specs.Prelude.{ℕ, Result, Ok, Err}
use Rattle.causes.specs.declared.Refusal.{Refusal}
use Rattle.causes.specs.Numbers.{number_of}

-- how many bytes are printed at the front of the lent space, or the number of the refusal
pub data TextPlayed : Type 0 where
  Printed : ℕ → TextPlayed
  Refused : ℕ → TextPlayed

-- what a function returns, as such an answer
abbrev pub text_by : Result ℕ Refusal → TextPlayed
text_by (Ok printed) = Printed printed
text_by (Err r) = Refused (number_of r)
