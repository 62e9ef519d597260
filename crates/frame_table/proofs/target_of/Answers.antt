-- What is not the one is the other.
use mathlib.Core.Path.{sym}
use Rattle.frame_table.proofs.target_of.Goals as goal

pub returns : goal.returns
returns c = sym (c.requires c.if-shape-eq-COORD.false)
