-- Of specs/Turns: what cites a theorem there that a changed definition can make fail.
use Rattle.std.specs.Prelude.{ℕ, ◌-◌, ◌≤◌, ◌<◌, ◌≡◌, refl, Bool, false, List, [], length}
use Rattle.std.proofs.Common.{sym, ap, subst, ◌∙◌, arith}
use Rattle.ranges.specs.Tests.{not-both}
use Rattle.tables.specs.Tables.{Tables}
use Rattle.schedule.specs.Lines.{line_of}
use Rattle.schedule.specs.Steps.{line_most}
use Rattle.printing.specs.Printed.{Printed}
use Rattle.playing.specs.Playable.{Playable}
use Rattle.window.specs.declared.Run.{Run}
use Rattle.window.specs.Window.{held_by, lacks_end, wants_more, passed, roomy, lines_then, Going}
use Rattle.window.specs.WindowLaws.{whole_there, part_length, held-within, wants, line-behind, going-behind}
use Rattle.turn.specs.Turned.{line_text, line_tables, Answered, Turned}
use Rattle.turn.proofs.Answers.{answered_later}
use Rattle.turn.specs.Turns.{Rest, left_by, line-playable, place, tables_by, used}

module _ (run : Run) (window out : List ℕ) (t : Tables)
    (going : Going run window out) (playable : Playable t) (some_left : 0 < run.left) where
  module _ (line : List ℕ) (is-line : line ≡ line_of (held_by run window)) where
    all_later : (unread : List ℕ) (r : Run) (t' : Tables) → run.held ≤ length window → length (held_by run window) ≡ run.held - run.from →
        (length line ≤ line_most → length line < run.held - run.from) →
        r ≡ passed (roomy run (used run window out t going playable some_left)) (length line) (lines_then (roomy run (used run window out t going playable some_left))) r.used → t' ≡ line_tables (roomy run (used run window out t going playable some_left)) line t →
        (Rest run window out t going playable some_left line is-line) line r unread t'
    all_later unread r t' held size whole next tables =
        let later =
        answered_later (roomy run (used run window out t going playable some_left)) window held t unread r.used
        (subst (λ (l : List ℕ). length l ≤ line_most → length l < length (held_by run window)) is-line (λ h. omega (arith, size, whole h)))
        going.from in
        subst (λ (x : Tables). Rest run window out t going playable some_left line is-line line r unread x) (sym tables)
        (subst (λ (x : Run). Rest run window out t going playable some_left line is-line line x unread (line_tables (roomy run (used run window out t going playable some_left)) line t)) (sym next)
        (subst (λ (l : List ℕ).
        (Rest run window out t going playable some_left line is-line) l (passed (roomy run (used run window out t going playable some_left)) (length l) (lines_then (roomy run (used run window out t going playable some_left))) r.used) unread (line_tables (roomy run (used run window out t going playable some_left)) l t))
        (sym is-line) later))

    pub turned-answer : lacks_end (length line) (run.held - run.from) ≡ false → (r : Run) (out' : List ℕ) (t' : Tables) →
        Answered (roomy run (used run window out t going playable some_left)) line t out r out' t' → length out' ≡ length out → Turned run window out t r window out' t'
    turned-answer whole r out' t' a l =
        let enough : wants_more run window ≡ false = wants run window out going some_left line is-line whole in
        let held = held-within run window out going some_left in
        let behind = line-behind run window out going some_left line is-line r a.next in
        record {
          tables = a.tables ∙ (ap (λ (l : List ℕ). line_tables run l t) is-line ∙ sym (ap (tables_by run window out t going playable some_left) enough));
          came = [];
          text = line_text (roomy run (used run window out t going playable some_left)) line t;
          printed = subst (λ (b : Bool). Printed out (place run window out t going playable some_left b) (line_text (roomy run (used run window out t going playable some_left)) line t) r.used out') (sym enough) a.printed;
          later = λ unread. all_later unread r t' held (part_length run window held)
              (whole_there (length line) (run.held - run.from) whole) a.next a.tables;
          comes = λ e. refl;
          left = subst (λ (b : Bool). r.left ≡ (left_by run window out t going playable some_left) b []) (sym enough) behind.left;
          ended = λ e none. absurd (not-both e enough);
          playable = subst Playable (sym a.tables) (line-playable run window out t going playable some_left line is-line);
          going = going-behind run window out going some_left line is-line r out' a.next a.short l;
        }
