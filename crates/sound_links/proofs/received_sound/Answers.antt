-- `sound_links::received_sound` meets its contract: n is above 0 where something must have been received.
use mathlib.Core.Path.{sym, ◌∙◌}
use Rattle.tables.specs.Tables.{with_counts}
use Rattle.soundness.specs.Sound.{received_sound}
use Rattle.sound_links.proofs.received_sound.Goals as goal

pub returns-then-expects : goal.returns-then-expects
unfolding received_sound
returns-then-expects c =
    λ t. rw (
      sym (c.expects.ensures (with_counts c.args.counts.now t)) ∙ c.if-expects.true,
      ← c.client_word-received.ensures,
      ← (c.holding.ensures t),
    ) c.between.ensures

pub returns : goal.returns
unfolding received_sound
returns c =
    λ t. rw (
      sym (c.expects.ensures (with_counts c.args.counts.now t)) ∙ c.if-expects.false,
      c.client_word-received.ensures,
    )
