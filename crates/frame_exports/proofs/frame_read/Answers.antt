-- `frame_exports::frame_read` meets its contract: the two numbers are those of what the reader gives.
use mathlib.Core.Path.{ap, ◌∙◌}
use Rattle.frame_exports.specs.Numbers.{parts_of}
use Rattle.frame_exports.proofs.frame_read.Goals as goal

pub returns : goal.returns
returns c =
    let r = c.read_frame-reading.ensures in
    (c.parts_of.ensures ∙ ap parts_of r.0, r.1, r.2, r.3)
