-- `recorded_frames::is_whole` meets its contract: what is left behind the frames that were judged decides.
use mathlib.Core.Bool.{not}
use mathlib.Core.Path.{ap, refl}
use Prim.Native.Nat.{◌-◌}
use Rattle.recordings.specs.Whole.{walked_start, walked_short, walked-broken, walked_on, walked_end}
use Rattle.recorded_frames.proofs.is_whole.Goals as goal

pub loop-length-init : goal.loop-length-init
loop-length-init c = walked_start _ _

pub returns-then-bytes-at : goal.returns-then-bytes-at
returns-then-bytes-at c =
    walked_short _ _ c.loop-length.length-index c.loop-length.at c.loop-length.invariant c.loop-length-test.true refl
    c.if-bytes-at.true

pub returns-then-not-is_readable : goal.returns-then-not-is_readable
returns-then-not-is_readable c =
    let a = c.args in
    walked-broken a.recording.now.lengths.now a.recording.now.bytes.now c.loop-length.length-index c.loop-length.at c.loop-length.invariant c.loop-length-test.true
    refl c.if-bytes-at.false c.is_readable.ensures (ap not c.if-not-is_readable.true)

pub loop-length-preserved : goal.loop-length-preserved
loop-length-preserved c =
    let a = c.args in
    walked_on a.recording.now.lengths.now a.recording.now.bytes.now c.loop-length.length-index c.loop-length.at c.loop-length.invariant c.loop-length-test.true
    refl c.if-bytes-at.false c.is_readable.ensures (ap not c.if-not-is_readable.false)

pub returns : goal.returns
returns c = walked_end _ _ c.loop-length.length-index c.loop-length.at c.loop-length.invariant c.loop-length-test.false
