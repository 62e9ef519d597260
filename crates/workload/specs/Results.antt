-- What the functions return, as what a pick gives: a refusal goes by the number of its cause.
use Rattle.std.specs.Prelude.{Option, None, Some, Result, Ok, Err}
use Rattle.causes.specs.declared.Refusal.{Refusal}
use Rattle.causes.specs.Numbers.{number_of}
use Rattle.workload.specs.declared.Pick.{Pick}
use Rattle.workload.specs.Next as next

-- on sound tables there is a step, or none is acceptable
abbrev pub next_given : Option Pick → next.Next
next_given None = next.End
next_given (Some p) = next.Given p.seed p.step

abbrev pub next_of : Result (Option Pick) Refusal → next.Next
next_of (Ok p) = next_given p
next_of (Err r) = next.Refused (number_of r)
