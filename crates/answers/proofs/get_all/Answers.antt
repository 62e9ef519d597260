-- `answers::get_all` meets its contract: the log or a server, each a case law of `on_get_all`.
use Rattle.answers.specs.Cases.{all-entries, all_held}
use Rattle.answers.proofs.get_all.Goals as goal

pub returns-then-target-eq-COORDINATOR : goal.returns-then-target-eq-COORDINATOR
returns-then-target-eq-COORDINATOR c =
    λ clients keys values log writes reads.
    all-entries _ _ _
    c.answer.ensures c.if-target-eq-COORDINATOR.true c.count_at-entries.ensures

pub returns : goal.returns
returns c =
    λ clients keys values log writes reads.
    all_held _ _ _
    c.answer-2.ensures c.if-target-eq-COORDINATOR.false c.count_at-held.ensures
