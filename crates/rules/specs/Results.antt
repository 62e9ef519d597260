-- What a step returns, as its answer: a refusal goes by the number of its cause.
use Rattle.std.specs.Prelude.{Result, Ok, Err}
use Rattle.causes.specs.declared.Refusal.{Refusal}
use Rattle.causes.specs.Numbers.{number_of}
use Rattle.rules.specs.Answer as answer

abbrev pub answer_by : {A : Type 0} → Result A Refusal → answer.Answer
answer_by (Ok _) = answer.Ok
answer_by (Err r) = answer.Refused (number_of r)
