-- What the writer returns, as what it does: a refusal goes by the number of its cause.
use Rattle.std.specs.Prelude.{ℕ, Result, Ok, Err}
use Rattle.causes.specs.declared.Refusal.{Refusal}
use Rattle.causes.specs.Numbers.{number_of}
use Rattle.format_writing.specs.Wrote.{Wrote}

abbrev pub wrote_by : Result ℕ Refusal → Wrote
wrote_by (Ok n) = record { fault = 0; length = n }
wrote_by (Err r) = record { fault = number_of r; length = 0 }
