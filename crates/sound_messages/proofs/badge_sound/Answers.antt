-- `sound_messages::badge_sound` meets its contract: by whether the state is the carrier.
use borrow.Author.Tests.{eq-eqb, ne_eqb}
use Rattle.sound_messages.proofs.badge_sound.Goals as goal

pub returns-then-state-carrier : goal.returns-then-state-carrier
returns-then-state-carrier c = rw (ne_eqb _ _ c.if-state-carrier.true)

pub returns : goal.returns
returns c = rw (eq-eqb _ _ c.if-state-carrier.false) c.badge_fits.ensures
