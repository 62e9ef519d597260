-- `comparing::difference_on` meets its contract: the frames of the link before the two cursors are the same, as many in each.
use Rattle.std.proofs.Common.{◌-◌, length}
use Rattle.recordings.specs.Following.{Level}
use Rattle.comparing.proofs.difference_on.Given as goal

abbrev pub invariant-loop-here : goal.invariant-loop-here
invariant-loop-here l = Level l.one.lengths.now l.one.bytes.now l.other.lengths.now l.other.bytes.now l.client l.target l.here.frame l.here.at l.there.frame l.there.at l.place

abbrev pub decreases-loop-here : goal.decreases-loop-here
decreases-loop-here l = length l.one.lengths.now - l.here.frame
