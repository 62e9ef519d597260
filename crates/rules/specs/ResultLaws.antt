-- An answer by the number of a refusal is the answer by its cause.
use Rattle.std.specs.Prelude.{◌≡◌, refl, Result, Ok, Err}
use Rattle.std.specs.Option.{option_map_or}
use Rattle.std.specs.Result.{result_err, result_map_both}
use Rattle.causes.specs.declared.Refusal.{Refusal}
use Rattle.causes.specs.Numbers.{number_of}
use Rattle.rules.specs.Answer as answer
use Rattle.rules.specs.Results.{answer_by}

pub answer-numbered : {A : Type 0} (r : Result A Refusal) →
    option_map_or answer.Refused (result_err (result_map_both (λ given. given) number_of r)) answer.Ok ≡ answer_by r
answer-numbered (Ok _) = refl
answer-numbered (Err _) = refl
