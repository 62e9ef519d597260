-- The byte that holds the part is stored anew.
use mathlib.Core.Path.{ap}
use lib.ListN.{set}
use Rattle.fields.specs.Parts.{put_part}
use Rattle.fields.proofs.put_last.Goals as goal

pub returns : goal.returns
unfolding put_part
returns c = let a = c.args in ap (set a.bytes.now a.place) c.with_last.ensures
