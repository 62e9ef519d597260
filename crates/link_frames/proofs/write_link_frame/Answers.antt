-- `link_frames::write_link_frame` meets its contract: number 2, or the frame from tables that were found sound.
use mathlib.Core.Bool.{not}
use mathlib.Core.Path.{ap}
use Rattle.ranges.specs.Tests.{holds}
use Rattle.tables.specs.Lent.{tables_lent}
use Rattle.soundness.specs.Facts.{sound_facts}
use Rattle.wire.specs.Answers.{frame_unsound}
use Rattle.link_frames.proofs.write_link_frame.Goals as goal

pub returns-then-not-sound : goal.returns-then-not-sound
returns-then-not-sound c =
    let a = c.args in
    frame_unsound a.client a.target
    (tables_lent a.t.now) a.bytes.now
    c.sound.ensures (ap not c.if-not-sound.true)

pub write_link_frame_sound-requires : goal.write_link_frame_sound-requires
write_link_frame_sound-requires c =
    let a = c.args in
    sound_facts (tables_lent a.t.now)
    (holds c.sound.ensures (ap not c.if-not-sound.false))

pub returns : goal.returns
returns c = c.write_link_frame_sound.ensures
