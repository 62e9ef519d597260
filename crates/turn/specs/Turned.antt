-- A turn of the program. What one turn prints and what the rest will print is what was to be printed, whatever is still to come;
-- and its tables are those that the line leaves.
use Rattle.std.specs.Prelude.{ℕ, ◌+◌, ◌-◌, ◌≤◌, ◌≡◌, true, false, cond, ◌&&◌, List, [], ◌++◌, length, eqb}
use Rattle.tables.specs.Tables.{Tables}
use Rattle.schedule.specs.Lines.{line_of}
use Rattle.printing.specs.Printed.{Printed}
use Rattle.printing.specs.Sizes.{answer_most}
use Rattle.playing.specs.Played.{played_line, shown_text, answers_from}
use Rattle.playing.specs.Playable.{Playable}
use Rattle.window.specs.declared.Run.{Run}
use Rattle.window.specs.Window.{held_by, lines_left, wants_more, room_from, passed, lines_then, Going}

-- what is still to be printed, where this text is left
abbrev pub rest_of : Run → List ℕ → Tables → List ℕ
rest_of run text t = answers_from (run.lines + 1) (lines_left run.skipping text) t

-- what is printed of a line, and the tables then: nothing of one that is answered already
abbrev pub line_text : Run → List ℕ → Tables → List ℕ
line_text run line t = cond run.skipping [] (shown_text (run.lines + 1) (played_line line t).shown)

abbrev pub line_tables : Run → List ℕ → Tables → Tables
line_tables run line t = cond run.skipping t (played_line line t).tables

-- A line is answered, unless it is answered already, and passed.
pub record Answered (run : Run) (line : List ℕ) (t : Tables) (out : List ℕ) (r : Run) (left : List ℕ) (t' : Tables) : Type 0 where
  pub printed : Printed out run.used (line_text run line t) r.used left
  pub short : r.used ≤ run.used + answer_most
  pub tables : t' ≡ line_tables run line t
  pub next : r ≡ passed run (length line) (lines_then run) r.used

-- A turn: some bytes come in, or a line is answered. Whatever is still unread, what was left to be printed is what the turn prints
-- and what is left then.
-- "A line ends at byte 10 or at the end of the text": at the end of the text a byte 10 comes in behind a line that has none.
pub record Turned (run : Run) (window out : List ℕ) (t : Tables) (r : Run) (window' out' : List ℕ) (t' : Tables) : Type 0 where
  -- a turn that reads leaves the tables, and one that answers a line leaves those that the line does
  pub tables : t' ≡ cond (wants_more run window) t (line_tables run (line_of (held_by run window)) t)
  pub came : List ℕ
  pub text : List ℕ
  pub printed : Printed out (cond (wants_more run window) run.used (room_from run.used (length out))) text r.used out'
  pub later : (unread : List ℕ) → rest_of run (held_by run window ++ (came ++ unread)) t ≡ text ++ rest_of r (held_by r window' ++ unread) t'
  -- bytes come in only where they are wanted
  pub comes : wants_more run window ≡ false → came ≡ []
  -- the run ends where they are wanted and none come; then every line is answered, since nothing is held
  pub left : r.left ≡ cond (wants_more run window && eqb (length came) 0) 0 (run.left - 1)
  pub ended : wants_more run window ≡ true → came ≡ [] → run.held ≤ run.from
  pub playable : Playable t'
  pub going : Going r window' out'
