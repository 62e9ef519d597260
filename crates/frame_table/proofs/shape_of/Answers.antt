-- Inside, the constant is the definition's table; beyond it, both have nothing.
use mathlib.Core.Path.{◌∙◌}
use Rattle.frame_table.specs.TableLaws.{shape-none}
use Rattle.frame_table.proofs.shape_of.Goals as goal

pub returns-then-row-ge-KINDS : goal.returns-then-row-ge-KINDS
returns-then-row-ge-KINDS c = c.columns.ensures ∙ shape-none c.args.kind c.if-row-ge-KINDS.true
