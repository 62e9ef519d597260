-- `sound_messages::request_sound` meets its contract: each state is one case of the definition.
use mathlib.Core.Bool.{not}
use mathlib.Core.Path.{ap}
use borrow.Author.Tests.{ne_eqb}
use Rattle.ranges.specs.Tests.{fails, holds}
use Rattle.soundness.specs.Sound.{request_sound}
use Rattle.sound_messages.proofs.request_sound.Goals as goal

pub returns-then-not-own_key : goal.returns-then-not-own_key
unfolding request_sound
returns-then-not-own_key c = λ t. rw (c.in-2.is, fails c.own_key-in-2.ensures (ap not c.if-not-own_key.true))

pub returns-in-1 : goal.returns-in-1
unfolding request_sound
returns-in-1 c = λ t. rw c.in-1.is c.own_key.ensures

pub returns-else-not-own_key : goal.returns-else-not-own_key
unfolding request_sound
returns-else-not-own_key c =
    λ t. rw (
      c.in-2.is,
      holds c.own_key-in-2.ensures (ap not c.if-not-own_key.false),
      ← c.count_at.ensures,
    ) c.mask_within.ensures

pub returns-in-4 : goal.returns-in-4
unfolding request_sound
returns-in-4 c = λ t. rw (c.in-4.is, ← c.count_at-in-4.ensures) c.key_in_range.ensures

pub returns-in_default : goal.returns-in_default
unfolding request_sound
returns-in_default c = λ t. let d = c.in_default.in_default-own.rest in rw (ne_eqb _ _ d.1, ne_eqb _ _ d.0.1, ne_eqb _ _ d.0.0.1)
