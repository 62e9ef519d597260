-- `link_frames::write_alone` meets its contract: no entries are lent.
use mathlib.Core.Path.{refl}
use Rattle.wire.specs.Cases.{wrote}
use Rattle.link_frames.proofs.write_alone.Goals as goal

pub returns : goal.returns
returns c =
    let a = c.args in
    wrote a.message a.bytes.now refl refl refl c.write_frame.ensures
