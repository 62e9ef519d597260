-- Why the lines played one by one are the text played.
use Rattle.std.specs.Prelude.{ℕ, zero, suc, ◌+◌, ◌-◌, ◌*◌, ◌/◌, ◌≤◌, ◌<◌, ◌≡◌, refl, Bool, true, false, cond, not, ◌&&◌, ◌||◌, drop, eqb, leb}
use Rattle.std.proofs.Math.Path.{sym, ap, subst}
use Rattle.std.proofs.Common.{◌∙◌, drop_of_length-le, length-drop}
use mathlib.Core.List.{List, [], ◌∷◌, ◌++◌, append_assoc, append-nil}
use native.Mathlib.Omega.{arith}
use Rattle.std.proofs.Math.ListN.{length}
use borrow.Author.Tests.{le-leb, lt-leb, leb-true, leb-false, eq-eqb, ne_eqb, not-false}
use Rattle.ranges.specs.Tests.{by-test, both_left, both_right}
use Rattle.tables.specs.Layout.{count_words}
use Rattle.tables.specs.Tables.{Tables, method_of}
use Rattle.soundness.specs.Sound.{sound}
use Rattle.soundness.specs.Facts.{Sound, sound_facts}
use Rattle.schedule.specs.Lines.{line_of, end_of, lines_of}
use Rattle.schedule.specs.LineLaws.{lines_next, end-within}
use Rattle.schedule.specs.Steps.{step_of}
use Rattle.printing.specs.Printed.{Printed}
use Rattle.printing.specs.PrintedLaws.{printed-none, printed_then}
use Rattle.printing.specs.Sizes.{answer_most}
use Rattle.register_text.specs.Text.{register_text, register_most, register_printed}
use Rattle.playing.specs.Played.{played_line, shown_text, LinePlayed, answers_from}
use Rattle.playing.specs.Playable.{Playable}
use Rattle.playing.specs.PlayableLaws.{step-playable}
use Rattle.texts.specs.TextPlayed as played
use Rattle.texts.specs.Text.{left_by_lines, print_of, playable, room_for, text_left, play_text}

-- whether tables may be played on, as the code finds it
module _ (t : Tables) where
  pub short_counts : length t.counts < count_words → false ≡ playable t
  unfolding playable
  short_counts h = rw (lt-leb _ _ h)

  pub not_opened : count_words ≤ length t.counts → method_of t ≡ 0 → true ≡ playable t
  unfolding playable
  not_opened h e = rw (le-leb _ _ h, eq-eqb _ _ e)

  pub opened : {b : Bool} → count_words ≤ length t.counts → (method_of t ≡ 0 → ⊥) → b ≡ sound t → b ≡ playable t
  unfolding playable
  opened h n e = e ∙ rw (le-leb _ _ h, ne_eqb _ _ n)

  -- the test says that they may
  pub playable_facts : playable t ≡ true → Playable t
  unfolding playable
  playable_facts e =
      let tests = both_right (leb count_words (length t.counts)) (eqb (method_of t) 0 || sound t) e in
      record {
        long = leb-true _ _ (both_left (leb count_words (length t.counts)) (eqb (method_of t) 0 || sound t) e);
        sound = λ h. sound_facts t (rw (ne_eqb (method_of t) 0 (λ z. omega (arith, h, z))) at tests);
      }

  -- before an opening there is no register, and behind one it is that of the tables
  pub unopened_printed : (out : List ℕ) (at : ℕ) → at ≤ length out → method_of t ≡ 0 → Printed out at (register_printed t) at out
  unfolding register_printed
  unopened_printed out at h e = rw (eq-eqb _ _ e) (printed-none out at h)

  pub opened_printed : (out : List ℕ) (at next bound : ℕ) (left : List ℕ) → (method_of t ≡ 0 → ⊥) →
      Printed out at (register_text t) next left × (next ≤ bound) → Printed out at (register_printed t) next left × (next ≤ bound)
  unfolding register_printed
  opened_printed out at next bound left n p = rw (ne_eqb _ _ n) p

-- whether all that some lines can print has room, as the code finds it
module _ (lines size : ℕ) where
  pub no_register : size < register_most → false ≡ leb (room_for lines) size
  no_register h = sym (lt-leb (room_for lines) size (omega (arith, h)))

  pub by_quotient : register_most ≤ size → leb lines ((size - register_most) / answer_most) ≡ leb (room_for lines) size
  by_quotient h =
      by-test (leb lines ((size - register_most) / answer_most))
      (λ e. let f : lines ≤ (size - register_most) / answer_most = leb-true _ _ e in
      e ∙ sym (le-leb (room_for lines) size (omega (arith, h, f))))
      (λ e. let f : (size - register_most) / answer_most < lines = leb-false _ _ e in
      e ∙ sym (lt-leb (room_for lines) size (omega (arith, h, f))))

pub room_there : {lines most size : ℕ} {r : Bool} → lines ≡ most → r ≡ leb (room_for lines) size → not r ≡ false → room_for most ≤ size
room_there e d f = rw (← e) (leb-true _ _ (sym d ∙ not-false _ f))

-- tables of the same lengths, as every line leaves them
pub record SameLengths (t t' : Tables) : Type 0 where
  pub counts : length t'.counts ≡ length t.counts
  pub clients : length t'.clients ≡ length t.clients
  pub links : length t'.links ≡ length t.links
  pub keys : length t'.keys ≡ length t.keys
  pub values : length t'.values ≡ length t.values
  pub log : length t'.log ≡ length t.log
  pub writes : length t'.writes ≡ length t.writes
  pub reads : length t'.reads ≡ length t.reads

-- how many lines are passed at a place of a text, between two lines
pub record Counting (text : List ℕ) (start number : ℕ) : Type 0 where
  pub count : number + length (lines_of (drop start text)) ≡ length (lines_of text)
  pub below : number ≤ start
  pub within : start ≤ length text + 1

-- All lines of a text are played.
pub record LinesPlayed (text : List ℕ) (t : Tables) (out : List ℕ) (next : ℕ) (out' : List ℕ) (t' : Tables) : Type 0 where
  pub printed : Printed out 0 (answers_from 1 (lines_of text) t) next out'
  pub short : next ≤ answer_most * length (lines_of text)
  pub tables : t' ≡ left_by_lines (lines_of text) t
  pub playable : Playable t'

-- Some lines are played, those before a place: what they printed, and what is left to be printed.
pub record Going (text : List ℕ) (t : Tables) (out : List ℕ) (start number next : ℕ) (out' : List ℕ) (t' : Tables) : Type 0 where
  pub counting : Counting text start number
  pub told : List ℕ
  pub printed : Printed out 0 told next out'
  pub answers : answers_from 1 (lines_of text) t ≡ told ++ answers_from (number + 1) (lines_of (drop start text)) t'
  pub tables : left_by_lines (lines_of text) t ≡ left_by_lines (lines_of (drop start text)) t'
  pub short : next ≤ answer_most * number
  pub playable : Playable t'
  pub size : length out' ≡ length out

-- one line more
answers-more : (number : ℕ) (line : List ℕ) (lines : List (List ℕ)) (t : Tables) →
    answers_from number (line ∷ lines) t ≡
    shown_text number (played_line line t).shown ++ answers_from (number + 1) lines (played_line line t).tables
unfolding answers_from
answers-more number line lines t = refl

left-more : (line : List ℕ) (lines : List (List ℕ)) (t : Tables) →
    left_by_lines (line ∷ lines) t ≡ left_by_lines lines (played_line line t).tables
unfolding left_by_lines
left-more line lines t = refl

module _ (text : List ℕ) where
  pub counting-begun : Counting text 0 0
  counting-begun = record { count = omega arith; below = omega arith; within = omega arith }

  pub counting_on : {start number : ℕ} (end : ℕ) → start < length text → end ≡ end_of text start → Counting text start number →
      Counting text (end + 1) (number + 1)
  counting_on {start} {number} end h e c =
      let n : length (lines_of (drop start text)) ≡ suc (length (lines_of (drop (end_of text start + 1) text))) =
      ap length (lines_next text start h) in
      rw e (record {
        count = omega (arith, n, c.count);
        below = omega (arith, c.below);
        within = omega (arith, end-within text start (omega (arith, h)));
      })

  -- a line that begins in the text ends there
  pub line-within : {start : ℕ} {line : List ℕ} → start < length text → line ≡ line_of (drop start text) →
      start + length line ≤ length text
  line-within {start} h e = rw e (end-within text start (omega (arith, h)))

  no_lines : {start : ℕ} → length text ≤ start → lines_of (drop start text) ≡ []
  unfolding lines_of
  no_lines h = rw (drop_of_length-le text h)

  pub counting_done : {start number : ℕ} → length text ≤ start → Counting text start number → number ≡ length (lines_of text)
  counting_done h c = omega (arith, c.count, ap length (no_lines h))

  module _ (t : Tables) (out : List ℕ) where
    pub going-begun : Playable t → Going text t out 0 0 0 out t
    going-begun p =
        record {
          counting = counting-begun;
          told = [];
          printed = printed-none out 0 (omega arith);
          answers = refl;
          tables = refl;
          short = omega arith;
          playable = p;
          size = refl;
        }

    pub going_on : {start number next next' end : ℕ} {line out' out'' : List ℕ} {t' t'' : Tables} → start < length text →
        Going text t out start number next out' t' → line ≡ line_of (drop start text) →
        LinePlayed (number + 1) line t' out' next next' out'' t'' → length out'' ≡ length out' → end ≡ start + length line + 1 →
        Going text t out end (number + 1) next' out'' t''
    going_on {start} {number} {next} {next'} {end} {line} {out'} {out''} {t'} {t''} h g is-line p size e =
        let rest = lines_of (drop end text) in
        let ends : end ≡ end_of text start + 1 = e ∙ ap (λ (l : List ℕ). start + length l + 1) is-line in
        let more : lines_of (drop start text) ≡ line ∷ rest =
        lines_next text start h ∙ (ap (λ (n : ℕ). line_of (drop start text) ∷ lines_of (drop n text)) (sym ends)
        ∙ ap (λ (l : List ℕ). l ∷ rest) (sym is-line)) in
        let said = shown_text (number + 1) (played_line line t').shown in
        record {
          counting = subst (λ (n : ℕ). Counting text n (number + 1)) (sym ends) (counting_on (end_of text start) h refl g.counting);
          told = g.told ++ said;
          printed = printed_then out g.told said 0 (omega arith) g.printed p.printed;
          answers = g.answers ∙ (ap (λ (l : List ℕ). g.told ++ l)
              (ap (λ (l : List (List ℕ)). answers_from (number + 1) l t') more ∙ (answers-more (number + 1) line rest t'
              ∙ ap (λ (x : Tables). said ++ answers_from (number + 1 + 1) rest x) (sym p.tables)))
              ∙ sym (append_assoc g.told said (answers_from (number + 1 + 1) rest t'')));
          tables = g.tables ∙ (ap (λ (l : List (List ℕ)). left_by_lines l t') more ∙ (left-more line rest t'
              ∙ ap (left_by_lines rest) (sym p.tables)));
          short = omega (arith, p.short, g.short);
          playable = rw p.tables (step-playable t' g.playable (step_of line).step (step_of line).setpoints);
          size = size ∙ g.size;
        }

    -- the next answer has room
    pub going_room : {start number next : ℕ} {out' : List ℕ} {t' : Tables} → room_for (length (lines_of text)) ≤ length out →
        start < length text → Going text t out start number next out' t' → next + answer_most ≤ length out'
    going_room {start} r h g = omega (arith, r, ap length (lines_next text start h), g.counting.count, g.short, g.size)

    pub going_done : {start number next : ℕ} {out' : List ℕ} {t' : Tables} → length text ≤ start →
        Going text t out start number next out' t' → LinesPlayed text t out next out' t'
    unfolding answers_from left_by_lines
    going_done {start} {number} {next} {out'} {t'} h g =
        let all : answers_from 1 (lines_of text) t ≡ g.told =
        g.answers ∙ (ap (λ (l : List (List ℕ)). g.told ++ answers_from (number + 1) l t') (no_lines h) ∙ append-nil g.told) in
        record {
          printed = subst (λ (l : List ℕ). Printed out 0 l next out') (sym all) g.printed;
          short = rw (← counting_done h g.counting) g.short;
          tables = sym (g.tables ∙ ap (λ (l : List (List ℕ)). left_by_lines l t') (no_lines h));
          playable = g.playable;
        }

-- playing a text, as the code meets it
module _ (text out : List ℕ) (t : Tables) {b : Bool} (d : b ≡ playable t) where
  pub text_unsound : not b ≡ true → text_left (played.Refused 2) out t ≡ play_text text out t
  unfolding play_text
  text_unsound e = rw (← d, e)

  module _ {lines : ℕ} (n : lines ≡ length (lines_of text)) {r : Bool} (room : r ≡ leb (room_for lines) (length out)) where
    pub text_short : not b ≡ false → not r ≡ true → text_left (played.Refused 12) out t ≡ play_text text out t
    unfolding play_text
    text_short e f = rw (← d, e, ← n, ← room, f)

    pub text-played : not b ≡ false → not r ≡ false → {next end : ℕ} {out' out'' : List ℕ} {t' : Tables} →
        LinesPlayed text t out next out' t' → Printed out' next (register_printed t') end out'' →
        text_left (played.Printed end) out'' t' ≡ play_text text out t
    unfolding play_text print_of
    text-played e f {next} {end} {out'} {out''} {t'} l p =
        let q = printed_then out (answers_from 1 (lines_of text) t) (register_printed t') 0 (omega arith) l.printed p in
        let print = answers_from 1 (lines_of text) t ++ register_printed t' in
        let z : 0 + length print ≡ length print = omega arith in
        rw (← d, e, ← n, ← room, f, ← l.tables, q.end, q.space, z)
