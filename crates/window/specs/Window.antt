-- A text that comes in pieces, through a window: what is held of it, whether more is wanted, and how the run goes on behind a line.
-- No table is needed for any of it.
use Rattle.std.specs.Prelude.{ℕ, ◌+◌, ◌-◌, ◌≤◌, ◌≡◌, Bool, true, false, cond, ◌&&◌, List, [], ◌++◌, length, take, drop, eqb, ltb, leb}
use Rattle.schedule.specs.Lines.{line_of, lines_of}
use Rattle.schedule.specs.Steps.{line_most}
use Rattle.printing.specs.Sizes.{answer_most}
use Rattle.window.specs.declared.Run.{Run}

-- the sizes of the window and of the print
abbrev pub window_size : ℕ
window_size = 65536

abbrev pub print_size : ℕ
print_size = 65536

-- how many turns a run may have, so that it ends; so many lines cannot come
abbrev pub turns_most : ℕ
turns_most = 9223372036854775808

-- the bytes of the window that are read and not yet played
abbrev pub held_by : Run → List ℕ → List ℕ
held_by run window = drop run.from (take run.held window)

-- what stands behind the line at the front of a text and its byte 10
abbrev pub behind_line : List ℕ → List ℕ
behind_line text = drop (length (line_of text) + 1) text

-- the lines of a text that are still to be answered; within a line that is answered, those behind it
abbrev pub lines_left : Bool → List ℕ → List (List ℕ)
lines_left skipping text = lines_of (cond skipping (behind_line text) text)

-- whether a line of this size, at the front of so many bytes that are held, has neither its end there nor more bytes than a step's line
unfoldable pub lacks_end : ℕ → ℕ → Bool
lacks_end size held = leb size line_most && leb held size

-- whether the end of the line at the front of what is held must still be read: then the turn reads on, and answers nothing
abbrev pub wants_more : Run → List ℕ → Bool
wants_more run window = lacks_end (length (line_of (held_by run window))) (run.held - run.from)

-- where the answer of a line is printed, in a print of this size: behind the bytes used, or, where the longest answer has no place there,
-- at its front
unfoldable pub room_from : ℕ → ℕ → ℕ
room_from used size = cond (ltb (size - answer_most) used) 0 used

-- the run behind a line of this size at its place: behind its byte 10, or within it where that is not held yet
unfoldable pub passed : Run → ℕ → ℕ → ℕ → Run
passed run size lines used =
    cond (ltb (run.from + size) run.held)
    (record { left = run.left - 1; lines = lines; from = run.from + size + 1; held = run.held; used = used; skipping = false })
    (record { left = run.left - 1; lines = lines; from = run.from + size; held = run.held; used = used; skipping = true })

-- how many lines are answered behind this one: no more where it is answered already
abbrev pub lines_then : Run → ℕ
lines_then run = cond run.skipping run.lines (run.lines + 1)

-- the same run, where so many bytes of the print are not written out
abbrev pub roomy : Run → ℕ → Run
roomy run used = record { left = run.left; lines = run.lines; from = run.from; held = run.held; used = used; skipping = run.skipping }

-- The bytes from..held of the window, and behind them those that came, stand at the front of the window then.
pub record Came (window : List ℕ) (from held now : ℕ) (left : List ℕ) : Type 0 where
  pub within : now ≤ length window
  pub came : List ℕ
  pub front : take now left ≡ drop from (take held window) ++ came
  -- nothing is held then only where nothing was held and nothing came
  pub none : eqb (length came) 0 ≡ eqb now 0
  pub ended : came ≡ [] → held ≤ from

-- The run reads on: what is held then is what was held and what came.
pub record ReadOn (run : Run) (window : List ℕ) (r : Run) (window' : List ℕ) : Type 0 where
  pub came : List ℕ
  pub held : held_by r window' ≡ held_by run window ++ came
  pub within : r.held ≤ length window
  pub from : r.from ≡ 0
  pub left : r.left ≡ cond (eqb (length came) 0) 0 (run.left - 1)
  pub ended : came ≡ [] → run.held ≤ run.from
  pub lines : r.lines ≡ run.lines
  pub used : r.used ≡ run.used
  pub skipping : r.skipping ≡ run.skipping

-- What holds between two turns: the window and the print are of a length, and what is held and used lies within them.
pub record Going (run : Run) (window out : List ℕ) : Type 0 where
  pub window_length : length window ≡ window_size
  pub out_length : length out ≡ print_size
  pub from : run.from ≤ run.held
  pub held : run.held ≤ window_size
  pub used : run.used ≤ print_size
  pub lines : run.lines + run.left ≤ turns_most
