-- `coordinator_requests::enter` meets its contract: in the log already or new, each a case law of `on_enter`.
use Rattle.coordinator_requests.specs.Cases.{enter_known, enter-new}
use Rattle.coordinator_requests.proofs.enter.Goals as goal

pub returns-then-tag-entries : goal.returns-then-tag-entries
returns-then-tag-entries c =
    λ keys values reads.
    enter_known _ _ _ _
    c.count_at-entries.ensures c.find-tag.ensures c.if-tag-entries.true c.answer.ensures

pub returns : goal.returns
returns c =
    λ keys values reads.
    enter-new _ _ _ _
    c.count_at-entries.ensures c.find-tag.ensures c.if-tag-entries.false (c.enter_new.ensures keys values reads)
