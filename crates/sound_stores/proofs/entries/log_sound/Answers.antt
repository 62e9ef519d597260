-- `sound_stores::entries::log_sound` meets its contract: the first entry, then every entry.
use mathlib.Core.Bool.{not}
use mathlib.Core.Path.{ap}
use Rattle.ranges.specs.Tests.{fails, holds}
use Rattle.soundness.specs.Sound.{log_sound}
use Rattle.sound_stores.proofs.entries.log_sound.Goals as goal

pub returns-then-not-first_entry_sound : goal.returns-then-not-first_entry_sound
unfolding log_sound
returns-then-not-first_entry_sound c = λ t. rw (fails (c.first_entry_sound.ensures t) (ap not c.if-not-first_entry_sound.true))

pub returns : goal.returns
unfolding log_sound
returns c = λ t. rw (holds (c.first_entry_sound.ensures t) (ap not c.if-not-first_entry_sound.false)) (c.entries_sound.ensures t)
