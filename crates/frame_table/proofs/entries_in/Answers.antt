-- Both ways of the test are the definition's.
use borrow.Author.Tests.{eq-eqb, ne_eqb}
use Rattle.frame_table.specs.Table.{less}
use Rattle.frame_table.proofs.entries_in.Goals as goal

pub returns-then-sort-eq-LESS : goal.returns-then-sort-eq-LESS
returns-then-sort-eq-LESS c = rw (eq-eqb c.args.sort less c.if-sort-eq-LESS.true)

pub returns : goal.returns
returns c = rw (ne_eqb c.args.sort less c.if-sort-eq-LESS.false)
