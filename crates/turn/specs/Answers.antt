-- Why an answered line leaves the rest to be printed as it was.
use Rattle.std.specs.Prelude.{ℕ, ◌+◌, ◌≤◌, ◌<◌, ◌≡◌, Bool, true, false, cond, take}
use Rattle.std.proofs.Common.{sym, ◌∙◌, arith, length-append}
use Rattle.std.proofs.Math.Path.{ap}
use mathlib.Core.List.{List, [], ◌++◌}
use Rattle.std.proofs.Math.ListN.{length, drop, drop_of_length-le}
use Rattle.std.proofs.Math.Seq.{length-take-le}
use Rattle.ranges.specs.Tests.{by-test}
use Rattle.tables.specs.Tables.{Tables}
use Rattle.schedule.specs.Lines.{line_of, lines_of}
use Rattle.schedule.specs.LineLaws.{line_short}
use Rattle.schedule.specs.Steps.{line_most, Named}
use Rattle.schedule.specs.StepLaws.{line_long}
use Rattle.printing.specs.PrintedLaws.{printed-none}
use Rattle.playing.specs.Played.{Played, played, played_line, shown_text, LinePlayed, answers_from}
use Rattle.window.specs.declared.Run.{Run}
use Rattle.window.specs.Window.{held_by, behind_line, passed, lines_then}
use Rattle.window.specs.WindowLaws.{behind-found, lines-found, behind_open, lines_open, passed-found, passed_open, passed-used}
use Rattle.window.specs.WindowLaws.{part_length, behind_there, whole-line}
use Rattle.turn.specs.Turned.{rest_of, line_text, line_tables, Answered}

-- "A line of any other shape, an empty or longer one too, is no step": all longer ones are played alike
pub long-played : (line more : List ℕ) (t : Tables) → line_most < length line → played_line (line ++ more) t ≡ played_line line t
long-played line more t h =
    ap (λ (n : Named). played n.step n.setpoints t)
    (line_long (line ++ more) (omega (arith, h, length-append line more)) ∙ sym (line_long line h))

module _ (run r : Run) (line : List ℕ) (t : Tables) (out : List ℕ) where
  -- how many lines are answered behind it, by whether it is answered already
  counted : {b : Bool} → run.skipping ≡ b → lines_then run ≡ cond b run.lines (run.lines + 1)
  counted e = ap (λ (b : Bool). cond b run.lines (run.lines + 1)) e

  -- a line that is answered already is only passed
  pub skipped : run.used ≤ length out → run.skipping ≡ true → r ≡ passed run (length line) run.lines run.used →
      Answered run line t out r out t
  skipped within e h =
      let u : r.used ≡ run.used = ap (λ (x : Run). x.used) h ∙ passed-used run (length line) run.lines run.used in
      record {
        printed = rw (e, u) (printed-none out run.used within);
        short = omega (arith, u);
        tables = rw e;
        next = h ∙ (ap (λ (n : ℕ). passed run (length line) n run.used) (sym (counted e))
            ∙ ap (passed run (length line) (lines_then run)) (sym u));
      }

  pub newly-answered : (used : ℕ) (left : List ℕ) (t' : Tables) → run.skipping ≡ false →
      LinePlayed (run.lines + 1) line t out run.used used left t' →
      r ≡ passed run (length line) (run.lines + 1) used → Answered run line t out r left t'
  newly-answered used left t' e p h =
      let u : r.used ≡ used = ap (λ (x : Run). x.used) h ∙ passed-used run (length line) (run.lines + 1) used in
      record {
        printed = rw (e, u) p.printed;
        short = omega (arith, u, p.short);
        tables = rw e p.tables;
        next = h ∙ (ap (λ (n : ℕ). passed run (length line) n used) (sym (counted e))
            ∙ ap (passed run (length line) (lines_then run)) (sym u));
      }

-- A line of what is held is answered and passed.
module _ (run : Run) (window : List ℕ) (within : run.held ≤ length window) (t : Tables) (unread : List ℕ) where
  abbrev pub part : List ℕ
  part = held_by run window

  abbrev pub line : List ℕ
  line = line_of part

  abbrev pub Later : Run → Type 0
  Later r = rest_of run (part ++ unread) t ≡ line_text run line t ++ rest_of r (held_by r window ++ unread) (line_tables run line t)

  module _ (used : ℕ) where
    pub later-found : length line < length part → Later (passed run (length line) (lines_then run) used)
    unfolding answers_from
    later-found found =
        let n : run.from + length line < run.held = omega (arith, found, part_length run window within) in
        let b : drop (run.from + length line + 1) (take run.held window) ≡ behind_line part = behind_there run window within in
        rw (passed-found run (length line) (lines_then run) used n, b)
        (by-test run.skipping
        (λ e. rw e (ap (λ (l : List ℕ). answers_from (run.lines + 1) (lines_of l) t)
        {x = behind_line (part ++ unread)} {y = behind_line part ++ unread} (behind-found part unread found)))
        (λ e. rw e (ap (λ (l : List (List ℕ)). answers_from (run.lines + 1) l t) (lines-found part unread found))))

    pub later_open : length part ≤ length line → line_most < length line → run.from ≤ run.held →
        Later (passed run (length line) (lines_then run) used)
    unfolding answers_from
    later_open open' long from =
        let n : run.held ≤ run.from + length line = omega (arith, open', part_length run window within) in
        let b : drop (run.from + length line) (take run.held window) ≡ [] = drop_of_length-le (take run.held window) {i =
        run.from + length line} (omega (arith, n, length-take-le run.held window within)) in
        let w : line ≡ part = whole-line part open' in
        rw (passed_open run (length line) (lines_then run) used n, b)
        (by-test run.skipping
        (λ e. rw e (ap (λ (l : List ℕ). answers_from (run.lines + 1) (lines_of l) t)
        {x = behind_line (part ++ unread)} {y = behind_line unread} (behind_open part unread open')))
        (λ e. rw e
        (ap (λ (l : List (List ℕ)). answers_from (run.lines + 1) l t) (lines_open part unread open' (omega (arith, long, line_short part)))
        ∙ ap (λ (p : Played).
        shown_text (run.lines + 1) p.shown ++ answers_from (run.lines + 1 + 1) (lines_of (behind_line unread)) p.tables)
        (ap (λ (l : List ℕ). played_line (l ++ line_of unread) t) (sym w) ∙ long-played line (line_of unread) t long))))
