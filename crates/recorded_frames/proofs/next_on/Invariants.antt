-- `recorded_frames::next_on` meets its contract: no frame of the link was passed.
use Rattle.recordings.specs.Whole.{Passing}
use Rattle.recorded_frames.proofs.next_on.Given as goal

abbrev pub invariant-loop-frame : goal.invariant-loop-frame
invariant-loop-frame l = Passing l.lengths l.recording.bytes.now l.client l.target l.fn.from.frame l.fn.from.at l.frame l.at
