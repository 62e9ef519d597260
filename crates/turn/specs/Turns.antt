-- The two kinds of a turn: bytes come in, or a line is answered.
use Rattle.std.specs.Prelude.{ℕ, ◌+◌, ◌-◌, ◌<◌, ◌≡◌, Bool, true, cond, ◌&&◌, List, [], ◌++◌, length, eqb}
use Rattle.std.proofs.Common.{sym, ap, subst, ◌∙◌, append_assoc, arith}
use Rattle.ranges.specs.Tests.{by-test, either, not-both}
use Rattle.tables.specs.Tables.{Tables}
use Rattle.schedule.specs.Lines.{line_of}
use Rattle.schedule.specs.Steps.{step_of}
use Rattle.printing.specs.Printed.{Printed}
use Rattle.printing.specs.PrintedLaws.{printed-none}
use Rattle.playing.specs.Played.{played_line, answers_from}
use Rattle.playing.specs.Playable.{Playable}
use Rattle.playing.specs.PlayableLaws.{step-playable}
use Rattle.window.specs.declared.Run.{Run}
use Rattle.window.specs.Window.{held_by, lines_left, lacks_end, wants_more, room_from, roomy, ReadOn, Going}
use Rattle.window.specs.WindowLaws.{wants, going-read}
use Rattle.turn.specs.Turned.{rest_of, line_text, line_tables, Turned}

module _ (run : Run) (window out : List ℕ) (t : Tables)
    (going : Going run window out) (playable : Playable t) (some_left : 0 < run.left) where
  -- where the print goes on in a turn that reads on, or not
  abbrev pub place : Bool → ℕ
  place wanting = cond wanting run.used (room_from run.used (length out))

  -- the tables that it leaves
  abbrev pub tables_by : Bool → Tables
  tables_by wanting = cond wanting t (line_tables run (line_of (held_by run window)) t)

  -- how many turns are left behind this one
  abbrev pub left_by : Bool → List ℕ → ℕ
  left_by wanting came = cond (wanting && eqb (length came) 0) 0 (run.left - 1)

  pub turned-read : (line : List ℕ) → line ≡ line_of (held_by run window) → lacks_end (length line) (run.held - run.from) ≡ true →
      (r : Run) (window' : List ℕ) → ReadOn run window r window' → length window' ≡ length window → Turned run window out t r window' out t
  turned-read line is-line lacks r window' k l =
      let wanting : wants_more run window ≡ true = wants run window out going some_left line is-line lacks in
      record {
        came = k.came;
        text = [];
        printed = subst (λ (b : Bool). Printed out (place b) [] r.used out) (sym wanting)
            (subst (λ (n : ℕ). Printed out run.used [] n out) (sym k.used)
            (printed-none out run.used (omega (arith, going.used, going.out_length))));
        later = λ unread.
            ap (λ (x : List ℕ). rest_of run x t)
            (sym (append_assoc (held_by run window) k.came unread) ∙ ap (λ (x : List ℕ). x ++ unread) (sym k.held))
            ∙ (ap (λ (n : ℕ). answers_from (n + 1) (lines_left run.skipping (held_by r window' ++ unread)) t) (sym k.lines)
            ∙ ap (λ (b : Bool). answers_from (r.lines + 1) (lines_left b (held_by r window' ++ unread)) t) (sym k.skipping));
        comes = λ e. absurd (not-both wanting e);
        left = subst (λ (b : Bool). r.left ≡ left_by b k.came) (sym wanting) k.left;
        ended = λ e none. k.ended none;
        tables = sym (ap tables_by wanting);
        playable = playable;
        going = going-read run window out going some_left r window' k l;
      }

  -- A turn that answers a line does it where room was made.
  abbrev pub used : ℕ
  used = room_from run.used (length out)

  module _ (line : List ℕ) (is-line : line ≡ line_of (held_by run window)) where
    abbrev pub Rest : List ℕ → Run → List ℕ → Tables → Type 0
    Rest l r unread t' =
        rest_of run (held_by run window ++ unread) t ≡ line_text (roomy run used) l t ++ rest_of r (held_by r window ++ unread) t'

    pub line-playable : Playable (line_tables (roomy run used) line t)
    line-playable =
        by-test run.skipping
        (λ e. subst (λ (b : Bool). Playable (cond b t (played_line line t).tables)) (sym e) playable)
        (λ e. subst (λ (b : Bool). Playable (cond b t (played_line line t).tables)) (sym e)
        (step-playable t playable (step_of line).step (step_of line).setpoints))

-- each turn uses one up
pub turned-less : {run : Run} {window out : List ℕ} {t : Tables} {r : Run} {window' out' : List ℕ} {t' : Tables} →
    Turned run window out t r window' out' t' → 0 < run.left → r.left < run.left
turned-less {run} {window} k h =
    subst (λ (n : ℕ). n < run.left) (sym k.left)
    (either (λ (n : ℕ). n < run.left) (wants_more run window && eqb (length k.came) 0) h (omega (arith, h)))
