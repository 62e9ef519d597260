-- `sound_messages::holding` meets its contract: the coordinator's entries, or a server's versions.
use borrow.Author.Tests.{eq-eqb, ne_eqb}
use Rattle.sound_messages.proofs.holding.Goals as goal

pub returns-then-target-eq-COORDINATOR : goal.returns-then-target-eq-COORDINATOR
returns-then-target-eq-COORDINATOR c = λ t. rw (eq-eqb _ _ c.if-target-eq-COORDINATOR.true) c.count_at.ensures

pub returns : goal.returns
returns c = λ t. rw (ne_eqb _ _ c.if-target-eq-COORDINATOR.false) c.count_at-2.ensures
