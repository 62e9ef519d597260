-- The frame at a cursor lies within the bytes.
use Rattle.std.proofs.Common.{arith}
use Rattle.recordings.specs.Whole.{frame_inside, part_is}
use Rattle.recorded_frames.proofs.frame_bytes.Goals as goal

pub slice_bounds-result-end : goal.slice_bounds-result-end
slice_bounds-result-end c =
    let a = c.args in
    let p = c.requires in
    omega (arith, frame_inside a.recording.now.lengths.now a.recording.now.bytes.now a.cursor.frame a.cursor.at p.before p.stands)
