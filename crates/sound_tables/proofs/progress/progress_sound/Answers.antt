-- `sound_tables::progress::progress_sound` meets its contract: each way out is one more test passed.
use mathlib.Core.Bool.{not}
use mathlib.Core.Path.{ap}
use borrow.Author.Tests.{le-leb, lt-leb}
use Rattle.ranges.specs.Tests.{fails, holds}
use Rattle.sound_tables.proofs.progress.progress_sound.Goals as goal

pub returns-then-not-between : goal.returns-then-not-between
returns-then-not-between c = λ t. rw (← c.count_at.ensures, fails c.between.ensures (ap not c.if-not-between.true))

pub returns-then-not-between-2 : goal.returns-then-not-between-2
returns-then-not-between-2 c =
    λ t. rw (
      ← c.count_at.ensures,
      ← c.count_at-2.ensures,
      holds c.between.ensures (ap not c.if-not-between.false),
      fails c.between-2.ensures (ap not c.if-not-between-2.true),
    )

pub returns-then-count_at : goal.returns-then-count_at
returns-then-count_at c =
    λ t. rw (
      ← c.count_at.ensures,
      ← c.count_at-2.ensures,
      ← c.count_at-3.ensures,
      holds c.between.ensures (ap not c.if-not-between.false),
      holds c.between-2.ensures (ap not c.if-not-between-2.false),
      lt-leb _ _ c.if-count_at.true,
    )

pub returns : goal.returns
returns c =
    λ t. rw (
      ← c.count_at.ensures,
      ← c.count_at-2.ensures,
      ← c.count_at-3.ensures,
      ← c.count_at-4.ensures,
      holds c.between.ensures (ap not c.if-not-between.false),
      holds c.between-2.ensures (ap not c.if-not-between-2.false),
      le-leb _ _ c.if-count_at.false,
    )
