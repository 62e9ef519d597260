-- Of specs/Answers: what cites a theorem there that a changed definition can make fail.
use Rattle.std.specs.Prelude.{ℕ, ◌≤◌, ◌<◌, ltb, leb}
use Rattle.std.proofs.Common.{ltb-true, ltb-false, leb-true, leb-false}
use mathlib.Core.List.{List}
use Rattle.std.proofs.Math.ListN.{length}
use Rattle.ranges.specs.Tests.{by-test}
use Rattle.tables.specs.Tables.{Tables}
use Rattle.schedule.specs.Steps.{line_most}
use Rattle.window.specs.declared.Run.{Run}
use Rattle.window.specs.Window.{passed, lines_then}
use Rattle.turn.specs.Answers.{Later, later-found, later_open, line, part}

-- A line of what is held is answered and passed.
module _ (run : Run) (window : List ℕ) (within : run.held ≤ length window) (t : Tables) (unread : List ℕ) where
  module _ (used : ℕ) where
    -- it is passed where its byte 10 is held, or where it is longer than a step's line can be
    pub answered_later : (length (line run window within t unread) ≤ line_most → length (line run window within t unread) < length (part run window within t unread)) → run.from ≤ run.held →
        (Later run window within t unread) (passed run (length (line run window within t unread)) (lines_then run) used)
    answered_later whole from =
        by-test (ltb (length (line run window within t unread)) (length (part run window within t unread)))
        (λ e. later-found run window within t unread used (ltb-true _ _ e))
        (λ e. by-test (leb (length (line run window within t unread)) line_most)
        (λ f. later-found run window within t unread used (whole (leb-true _ _ f)))
        (λ f. later_open run window within t unread used (ltb-false _ _ e) (leb-false _ _ f) from))
