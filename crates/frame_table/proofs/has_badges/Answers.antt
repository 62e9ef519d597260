-- What an entry's badge holds is some or none.
use mathlib.Core.Path.{ap}
use Rattle.frame_table.specs.declared.Shape.{Shape}
use Rattle.frame_table.specs.TableLaws.{badged_by}
use Rattle.frame_table.proofs.has_badges.Goals as goal

pub row_of-row-requires : goal.row_of-row-requires
row_of-row-requires c = ap (λ (s : Shape). s.target) c.shape_of-shape.ensures

pub returns : goal.returns
returns c = badged_by c.args.kind c.row_of-row.ensures
