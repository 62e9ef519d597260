-- Both ways of the test are the definition's.
use borrow.Author.Tests.{eq-eqb, ne_eqb}
use Rattle.formats.proofs.state.taken_at.Goals as goal

pub returns-then-place-wanted : goal.returns-then-place-wanted
returns-then-place-wanted c = let a = c.args in rw (eq-eqb a.place a.wanted c.if-place-wanted.true)

pub returns-else-place-wanted : goal.returns-else-place-wanted
returns-else-place-wanted c = let a = c.args in rw (ne_eqb a.place a.wanted c.if-place-wanted.false)
