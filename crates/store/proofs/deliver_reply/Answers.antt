-- `store::deliver_reply` meets its contract: number 2, or the step on tables that were found sound.
use mathlib.Core.Path.{sym, ◌∙◌}
use Rattle.soundness.specs.Facts.{sound_facts}
use Rattle.store.specs.Unsound.{unsound-reply}
use Rattle.store.proofs.deliver_reply.Goals as goal

pub returns-then-not-sound : goal.returns-then-not-sound
returns-then-not-sound c = unsound-reply _ c.sound.ensures c.if-not-sound.true _ _ (rw c.number.ensures at c.showing_nothing.ensures)

pub deliver_reply_sound-requires : goal.deliver_reply_sound-requires
deliver_reply_sound-requires c = sound_facts _ (sym c.sound.ensures ∙ c.if-not-sound.false)
