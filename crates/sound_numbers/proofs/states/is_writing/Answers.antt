-- `sound_numbers::states::is_writing` meets its contract: one state or the other.
use borrow.Author.Tests.{eq-eqb, ne_eqb}
use Rattle.sound_numbers.proofs.states.is_writing.Goals as goal

pub returns-then-state-eq-WRITING : goal.returns-then-state-eq-WRITING
returns-then-state-eq-WRITING c = rw (eq-eqb _ _ c.if-state-eq-WRITING.true)

pub returns : goal.returns
returns c = rw (ne_eqb _ _ c.if-state-eq-WRITING.false)
