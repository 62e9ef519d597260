-- `link_frames::last_tag` meets its contract: tags are counted from 0.
use native.Mathlib.Omega.{arith}
use Rattle.link_frames.proofs.last_tag.Goals as goal

pub returns : goal.returns
returns c = omega arith
