-- A line of another byte than O and W leaves the place as it was.
use Rattle.std.proofs.Common.{sym, ◌∙◌, arith}
use Rattle.schedule.proofs.PairLaws.{line-pair}
use Rattle.step_reading.proofs.read_step.Goals as goal

pub returns-else-has_setpoints : goal.returns-else-has_setpoints
returns-else-has_setpoints c =
    line-pair c.args.line.now c.args.setpoints.now (λ z. omega (arith, c.in-len1-up.len_at_least)) c.if-line-gt-LINE.false
    (sym c.has_setpoints.ensures ∙ c.if-has_setpoints.false)
    c.read_pair.ensures
