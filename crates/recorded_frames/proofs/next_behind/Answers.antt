-- Behind a frame the recording still stands.
use Rattle.std.proofs.Common.{arith}
use Rattle.recordings.specs.Whole.{frame_inside, stands-next}
use Rattle.recorded_frames.proofs.next_behind.Goals as goal

pub next_on-requires : goal.next_on-requires
next_on-requires c =
    let p = c.requires in
    let r = c.args.recording.now in
    stands-next r.lengths.now r.bytes.now c.args.cursor.frame c.args.cursor.at p.before p.stands
