-- `sound_messages::reply_sound` meets its contract: each state is one case of the definition.
use borrow.Author.Tests.{le-leb, lt-leb, ne_eqb}
use Rattle.soundness.specs.Sound.{reply_sound}
use Rattle.sound_messages.proofs.reply_sound.Goals as goal

pub returns-then-number-lt1 : goal.returns-then-number-lt1
unfolding reply_sound
returns-then-number-lt1 c = λ t. rw (c.in-2.is, lt-leb _ _ c.if-number-lt1.true)

pub returns-else-number-lt1 : goal.returns-else-number-lt1
unfolding reply_sound
returns-else-number-lt1 c = λ t. rw (c.in-2.is, le-leb _ _ c.if-number-lt1.false, c.count_at.ensures)

pub returns-in-3 : goal.returns-in-3
unfolding reply_sound
returns-in-3 c = λ t. rw (c.in-3.is, ← (c.holding.ensures t)) c.between.ensures

pub returns-in-5 : goal.returns-in-5
unfolding reply_sound
returns-in-5 c = λ t. rw (c.in-5.is, ← (c.holding-in-5.ensures t)) c.between-in-5.ensures

pub returns-in_default : goal.returns-in_default
unfolding reply_sound
returns-in_default c = λ t. let d = c.in_default.in_default-own.rest in rw (ne_eqb _ _ d.1, ne_eqb _ _ d.0.1, ne_eqb _ _ d.0.0.1)
