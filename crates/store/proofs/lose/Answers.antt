-- `store::lose` meets its contract: number 2, or the step on tables that were found sound.
use mathlib.Core.Path.{sym, ◌∙◌}
use Rattle.soundness.specs.Facts.{sound_facts}
use Rattle.store.specs.Unsound.{unsound_loss}
use Rattle.store.proofs.lose.Goals as goal

pub returns-then-not-sound : goal.returns-then-not-sound
returns-then-not-sound c = unsound_loss _ c.sound.ensures c.if-not-sound.true _ _

pub lose_sound-requires : goal.lose_sound-requires
lose_sound-requires c = sound_facts _ (sym c.sound.ensures ∙ c.if-not-sound.false)
