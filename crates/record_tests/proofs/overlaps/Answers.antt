-- `record_tests::overlaps` meets its contract: the begin, then whether it is finished, then the end.
use mathlib.Core.Bool.{not}
use mathlib.Core.Path.{ap}
use borrow.Author.Tests.{lt-ltb, le-ltb}
use Rattle.ranges.specs.Tests.{fails, holds}
use Rattle.record_tests.proofs.overlaps.Goals as goal

pub returns-then-end-record_word : goal.returns-then-end-record_word
returns-then-end-record_word c = rw (← c.record_word.ensures, le-ltb _ _ c.if-end-record_word.true)

pub returns-then-not-is_finished : goal.returns-then-not-is_finished
returns-then-not-is_finished c =
    rw (
      ← c.record_word.ensures,
      lt-ltb _ _ c.if-end-record_word.false,
      fails c.is_finished.ensures (ap not c.if-not-is_finished.true),
    )

pub returns : goal.returns
returns c =
    rw (
      ← c.record_word.ensures,
      lt-ltb _ _ c.if-end-record_word.false,
      holds c.is_finished.ensures (ap not c.if-not-is_finished.false),
      c.record_word-2.ensures,
    )
