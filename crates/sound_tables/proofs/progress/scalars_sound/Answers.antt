-- `sound_tables::progress::scalars_sound` meets its contract: the press, then what has been done.
use mathlib.Core.Bool.{not}
use mathlib.Core.Path.{ap}
use Rattle.ranges.specs.Tests.{fails, holds}
use Rattle.soundness.specs.Sound.{scalars_sound}
use Rattle.sound_tables.proofs.progress.scalars_sound.Goals as goal

pub returns-then-not-press_sound : goal.returns-then-not-press_sound
unfolding scalars_sound
returns-then-not-press_sound c = λ t. rw (fails (c.press_sound.ensures t) (ap not c.if-not-press_sound.true))

pub returns : goal.returns
unfolding scalars_sound
returns c = λ t. rw (holds (c.press_sound.ensures t) (ap not c.if-not-press_sound.false)) (c.progress_sound.ensures t)
