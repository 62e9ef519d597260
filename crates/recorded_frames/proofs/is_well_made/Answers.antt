-- With few enough frames a recording is well made where it is whole.
use mathlib.Core.Path.{◌∙◌}
use Rattle.recordings.specs.Whole.{well-made_few, well-made_many}
use Rattle.recorded_frames.proofs.is_well_made.Goals as goal

pub returns-then-recording-gt-MOST_FRAMES : goal.returns-then-recording-gt-MOST_FRAMES
returns-then-recording-gt-MOST_FRAMES c = well-made_many _ _ c.if-recording-gt-MOST_FRAMES.true

pub returns : goal.returns
returns c = c.is_whole.ensures ∙ well-made_few _ _ c.if-recording-gt-MOST_FRAMES.false
