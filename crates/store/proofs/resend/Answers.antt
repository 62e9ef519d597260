-- `store::resend` meets its contract: number 2, or the step on tables that were found sound.
use mathlib.Core.Path.{sym, ◌∙◌}
use Rattle.soundness.specs.Facts.{sound_facts}
use Rattle.store.specs.Unsound.{unsound-resend}
use Rattle.store.proofs.resend.Goals as goal

pub returns-then-not-sound : goal.returns-then-not-sound
returns-then-not-sound c = unsound-resend _ c.sound.ensures c.if-not-sound.true _ _

pub resend_sound-requires : goal.resend_sound-requires
resend_sound-requires c = sound_facts _ (sym c.sound.ensures ∙ c.if-not-sound.false)
