-- `sound_records::read_sound` meets its contract: each way out is one more test passed.
use mathlib.Core.Bool.{not}
use mathlib.Core.Path.{ap}
use borrow.Author.Tests.{lt-ltb, le-ltb}
use Rattle.ranges.specs.Tests.{fails, holds}
use Rattle.soundness.specs.Sound.{read_sound}
use Rattle.sound_records.proofs.read_sound.Goals as goal

pub returns-then-count_at-record_word : goal.returns-then-count_at-record_word
unfolding read_sound
returns-then-count_at-record_word c = λ t. rw (← c.count_at.ensures, ← c.record_word.ensures, le-ltb _ _ c.if-count_at-record_word.true)

pub returns-then-not-mask_within : goal.returns-then-not-mask_within
unfolding read_sound
returns-then-not-mask_within c =
    λ t. rw (
      ← c.count_at.ensures,
      ← c.record_word.ensures,
      lt-ltb _ _ c.if-count_at-record_word.false,
      ← c.record_word-2.ensures,
      ← c.count_at-2.ensures,
      fails c.mask_within.ensures (ap not c.if-not-mask_within.true),
    )

pub returns : goal.returns
unfolding read_sound
returns c =
    λ t. rw (
      ← c.count_at.ensures,
      ← c.record_word.ensures,
      lt-ltb _ _ c.if-count_at-record_word.false,
      ← c.record_word-2.ensures,
      ← c.count_at-2.ensures,
      holds c.mask_within.ensures (ap not c.if-not-mask_within.false),
      ← c.record_word-3.ensures,
      ← c.count_at-3.ensures,
    )
