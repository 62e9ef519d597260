-- `sound_records::write_sound` meets its contract: each way out is one more test passed.
use mathlib.Core.Bool.{not}
use mathlib.Core.Path.{ap}
use borrow.Author.Tests.{lt-ltb, le-ltb}
use Rattle.ranges.specs.Tests.{fails, holds}
use Rattle.soundness.specs.Sound.{write_sound}
use Rattle.sound_records.proofs.write_sound.Goals as goal

pub returns-then-count_at-record_word : goal.returns-then-count_at-record_word
unfolding write_sound
returns-then-count_at-record_word c = λ t. rw (← c.count_at.ensures, ← c.record_word.ensures, le-ltb _ _ c.if-count_at-record_word.true)

pub returns-then-not-between : goal.returns-then-not-between
unfolding write_sound
returns-then-not-between c =
    λ t. rw (
      ← c.count_at.ensures,
      ← c.record_word.ensures,
      lt-ltb _ _ c.if-count_at-record_word.false,
      ← c.record_word-2.ensures,
      fails c.between.ensures (ap not c.if-not-between.true),
    )

pub returns-then-count_at-record_word-2 : goal.returns-then-count_at-record_word-2
unfolding write_sound
returns-then-count_at-record_word-2 c =
    λ t. rw (
      ← c.count_at.ensures,
      ← c.record_word.ensures,
      lt-ltb _ _ c.if-count_at-record_word.false,
      ← c.record_word-2.ensures,
      holds c.between.ensures (ap not c.if-not-between.false),
      ← c.count_at-2.ensures,
      ← c.record_word-3.ensures,
      le-ltb _ _ c.if-count_at-record_word-2.true,
    )

pub returns : goal.returns
unfolding write_sound
returns c =
    λ t. rw (
      ← c.count_at.ensures,
      ← c.record_word.ensures,
      lt-ltb _ _ c.if-count_at-record_word.false,
      ← c.record_word-2.ensures,
      holds c.between.ensures (ap not c.if-not-between.false),
      ← c.count_at-2.ensures,
      ← c.record_word-3.ensures,
      lt-ltb _ _ c.if-count_at-record_word-2.false,
      ← c.record_word-4.ensures,
    ) c.badge_fits.ensures
