-- `sound_stores::entries::entry_sound` meets its contract: the key, then the mask.
use mathlib.Core.Bool.{not}
use mathlib.Core.Path.{ap}
use Rattle.ranges.specs.Tests.{fails, holds}
use Rattle.soundness.specs.Sound.{entry_sound}
use Rattle.sound_stores.proofs.entries.entry_sound.Goals as goal

pub returns-then-not-key_in_range : goal.returns-then-not-key_in_range
unfolding entry_sound
returns-then-not-key_in_range c =
    λ t. rw (
      ← c.count_at.ensures,
      ← c.key_word.ensures,
      fails c.key_in_range.ensures (ap not c.if-not-key_in_range.true),
    )

pub returns : goal.returns
unfolding entry_sound
returns c =
    λ t. rw (
      ← c.count_at.ensures,
      ← c.key_word.ensures,
      holds c.key_in_range.ensures (ap not c.if-not-key_in_range.false),
      ← c.entry_mask.ensures,
      ← c.count_at-2.ensures,
    ) c.mask_within.ensures
