-- `store::deliver_request` meets its contract: number 2, or the step on tables that were found sound.
use mathlib.Core.Path.{sym, ◌∙◌}
use Rattle.soundness.specs.Facts.{sound_facts}
use Rattle.store.specs.Unsound.{unsound-request}
use Rattle.store.proofs.deliver_request.Goals as goal

pub returns-then-not-sound : goal.returns-then-not-sound
returns-then-not-sound c = unsound-request _ c.sound.ensures c.if-not-sound.true _ _

pub deliver_request_sound-requires : goal.deliver_request_sound-requires
deliver_request_sound-requires c = sound_facts _ (sym c.sound.ensures ∙ c.if-not-sound.false)
