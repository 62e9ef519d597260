-- A scan with no fault is that of a readable frame.
use Rattle.std.proofs.Common.{◌∙◌}
use Rattle.recordings.specs.ReadableLaws.{taken-readable}
use Rattle.recorded_frames.proofs.is_readable.Goals as goal

pub returns : goal.returns
returns c = c.is_ok.ensures.value ∙ taken-readable _ _ c.scan_frame.ensures
