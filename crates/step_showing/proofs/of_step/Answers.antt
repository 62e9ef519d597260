-- `step_showing::of_step` meets its contract: by the number of its cause it is the same answer.
use Rattle.std.specs.Prelude.{ℕ, Result}
use Rattle.std.specs.Option.{option_map_or}
use Rattle.std.specs.Result.{result_err}
use Rattle.std.proofs.Common.{ap, ◌∙◌, ◌≡◌}
use Rattle.rules.specs.Answer.{Answer, Ok, Refused}
use Rattle.rules.specs.Answers.{left}
use Rattle.rules.specs.Results.{answer_by}
use Rattle.rules.specs.ResultLaws.{answer-numbered}
use Rattle.playing.specs.Played.{left_played}
use Rattle.step_showing.proofs.of_step.Goals as goal

pub returns : goal.returns
returns c t =
    let e : option_map_or Refused (result_err c.numbered.result) Ok ≡ answer_by c.args.answer =
    rw c.numbered.ensures (answer-numbered c.args.answer) in
    c.answered.ensures t ∙ ap (λ (a : Answer). left_played (left a t)) e
