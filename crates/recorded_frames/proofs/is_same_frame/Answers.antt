-- Frames are equal where they are the same byte by byte.
use Rattle.std.proofs.Common.{ap₂, ◌∙◌}
use Rattle.recordings.specs.Comparing.{same}
use Rattle.recordings.specs.SameLaws.{pointwise-same}
use Rattle.recorded_frames.proofs.is_same_frame.Goals as goal

pub returns : goal.returns
returns c = c.eq.ensures ∙ pointwise-same _ _ ∙ ap₂ same c.frame_bytes.ensures c.frame_bytes-2.ensures
