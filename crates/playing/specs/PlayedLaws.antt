-- How the parts of what is printed follow from a step's answer.
use Rattle.std.specs.Prelude.{ℕ, ◌+◌, ◌/◌, ◌≤◌, ◌<◌, ◌≡◌, List, length, take, drop}
use Rattle.std.proofs.Common.{ap, subst, ◌∙◌, length-append, arith, le-leb}
use Rattle.std.proofs.Math.Seq.{take-append_seam}
use Rattle.std.proofs.lemmas.Bool.{lt-leb}
use Rattle.tables.specs.Layout.{client_word, client_width, mask_field}
use Rattle.tables.specs.Tables.{Tables}
use Rattle.rules.specs.Answers.{Left, Arrived, arrived}
use Rattle.rules.specs.declared.Delivered.{Delivered}
use Rattle.schedule.specs.declared.Reading.{Reading}
use Rattle.schedule.specs.declared.Step.{Step}
use Rattle.schedule.specs.Steps.{Named, Names, step_of}
use Rattle.printing.specs.declared.Word.{Word}
use Rattle.printing.specs.Printed.{Printed}
use Rattle.printing.specs.Sizes.{answer_most}
use Rattle.playing.specs.declared.Shown.{Shown}
use Rattle.playing.specs.Played.{arrival_word, Played, showing, left_played, arrived_played, mask_or_zero, played, played_line, shown_text, LinePlayed}

pub left-played : {p : Played} {a b : Left} → p ≡ left_played a → a ≡ b → p ≡ left_played b
left-played e f = e ∙ ap left_played f

pub word-arrived : (w : Word) (d : Delivered) (mask : ℕ) → w ≡ arrival_word d.arrival → (t : Tables) →
    showing (record { word = w; mask = mask; setpoints = d.setpoints; tags = d.tags; badges = d.badges }) t
    ≡ arrived_played mask (arrived d t)
word-arrived w d mask e t = rw e

pub arrived-played : {p : Played} {m n : ℕ} {a b : Arrived} → p ≡ arrived_played m a → m ≡ n → a ≡ b → p ≡ arrived_played n b
arrived-played {p} {m} {n} {a} {b} e f g = e ∙ (ap (λ (k : ℕ). arrived_played k a) f ∙ ap (arrived_played n) g)

module _ (clients : List ℕ) (client : ℕ) where
  pub mask-none : length clients / client_width ≤ client → 0 ≡ mask_or_zero clients client
  mask-none h = rw (le-leb _ _ h)

  pub mask_held : {m : ℕ} → client < length clients / client_width → m ≡ client_word clients client mask_field → m ≡ mask_or_zero clients client
  mask_held h e = rw (lt-leb _ _ h) e

-- the setpoints of a line stand within the lent place
pub within-place : (n : Named) (held : List ℕ) (r : Reading) (left : List ℕ) → Names n held r left → r.setpoints ≤ length left
within-place n held r left h =
    let e : r.setpoints ≡ length n.setpoints = ap (λ (x : Reading). x.setpoints) h.reading in
    let l : length left ≡ length n.setpoints + length (drop (length n.setpoints) held) = ap length h.place ∙ length-append n.setpoints (drop (length n.setpoints) held) in
    omega (arith, e, l)

-- the place's front is the setpoints of the line
setpoints-read : (n : Named) (held : List ℕ) (r : Reading) (left : List ℕ) → Names n held r left → take r.setpoints left ≡ n.setpoints
setpoints-read n held r left h = rw (h.reading, h.place) (take-append_seam n.setpoints (drop (length n.setpoints) held))

-- who plays what was read of a line plays the line
pub line-played : (line held left : List ℕ) (r : Reading) {p : Played} (t : Tables) → Names (step_of line) held r left → p ≡ played r.step (take r.setpoints left) t → p ≡ played_line line t
line-played line held left r t h e =
    e ∙ (ap (λ (x : Step). played x (take r.setpoints left) t) (ap (λ (x : Reading). x.step) h.reading)
    ∙ ap (λ (l : List ℕ). played (step_of line).step l t) (setpoints-read (step_of line) held r left h))

-- who prints what a line shows has played the line
pub line_printed : (number : ℕ) (line : List ℕ) (t : Tables) (out : List ℕ) (at next : ℕ) (left : List ℕ) {s : Shown} {t' : Tables} →
    showing s t' ≡ played_line line t → Printed out at (shown_text number s) next left × (next ≤ at + answer_most) → LinePlayed number line t out at next left t'
line_printed number line t out at next left {s} {t'} e p =
    record {
      printed = subst (λ (x : Shown). Printed out at (shown_text number x) next left) (ap (λ (x : Played). x.shown) e) p.0;
      short = p.1;
      tables = ap (λ (x : Played). x.tables) e;
    }
