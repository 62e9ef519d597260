-- `load_steps::take_step` meets its contract: each case of a pick leaves the tables that `after_pick` says.
use Rattle.std.proofs.Common.{refl, ap, ◌∙◌}
use Rattle.tables.specs.Lent.{tables_in}
use Rattle.workload.specs.Results.{next_given}
use Rattle.workload_run.specs.Cases.{taken_by}
use Rattle.load_steps.proofs.take_step.Goals as goal

pub returns-in_err-pick-clause-took : goal.returns-in_err-pick-clause-took
returns-in_err-pick-clause-took c =
    taken_by (tables_in c.args.press.now) c.args.seed (c.next_step_sound.ensures ∙ rw c.lent.ensures)
    (ap next_given c.in_err-pick.was) (ap next_given c.from_residual.ensures) refl

pub returns-clause-took : goal.returns-clause-took
returns-clause-took c =
    taken_by (tables_in c.args.press.now) c.args.seed (c.next_step_sound.ensures ∙ rw c.lent.ensures)
    (ap next_given c.in_ok-pick.was) refl c.play_given.ensures.played
