-- `store::begin_read` meets its contract: number 2, or the step on tables that were found sound.
use mathlib.Core.Path.{sym, ◌∙◌}
use Rattle.soundness.specs.Facts.{sound_facts}
use Rattle.store.specs.Unsound.{unsound-read}
use Rattle.store.proofs.begin_read.Goals as goal

pub returns-then-not-sound : goal.returns-then-not-sound
returns-then-not-sound c = unsound-read _ c.sound.ensures c.if-not-sound.true _ _

pub begin_read_sound-requires : goal.begin_read_sound-requires
begin_read_sound-requires c = sound_facts _ (sym c.sound.ensures ∙ c.if-not-sound.false)
