-- `recorded_frames::is_whole` meets its contract: what is left behind the frames that were judged decides.
use Rattle.recordings.specs.Whole.{Walked}
use Rattle.recorded_frames.proofs.is_whole.Given as goal

abbrev pub invariant-loop-length : goal.invariant-loop-length
invariant-loop-length l = Walked l.recording.lengths.now l.bytes l.length-index l.at
