-- The rows that listing lays are the register's lines.
use Rattle.std.specs.Prelude.{ℕ, zero, suc, ◌+◌, ◌-◌, ◌*◌, ◌≤◌, ◌≡◌, refl, Bool, true, false, take, drop, get_or}
use Rattle.std.proofs.Common.{sym, ap, subst, ◌∙◌, true≢false, arith, add-one, drop-drop}
use mathlib.Core.List.{List, [], ◌∷◌, ◌++◌, flat_map, append_assoc, append-nil}
use Rattle.std.proofs.Math.ListN.{length}
use borrow.Author.Tests.{le-ltb, eq-eqb, ne_eqb}
use Rattle.tables.specs.Tables.{Tables}
use Rattle.soundness.specs.Facts.{Sound, facts-sound}
use Rattle.printing.specs.Texts.{write_text, read_text}
use Rattle.printing.specs.Printed.{Printed}
use Rattle.printing.specs.PrintedLaws.{printed-none, printed_then}
use Rattle.listing.specs.Listed.{Listed}
use Rattle.listing.specs.Listed.Listed.{Rows, Refused}
use Rattle.listing.specs.Register.{Line, write, read, line_width, most_lines, line_words, register, register_words, Listing, listing, listed_sound, list_register}
use Rattle.listing.specs.Changes.{register_few}
use Rattle.register_text.specs.Text.{row_text, rows_text, register_text}

module _ (row : List ℕ) where
  pub row_write : get_or row 0 0 ≡ 0
      → row_text row ≡ write_text (get_or row 1 0) (get_or row 2 0) (get_or row 3 0) (get_or row 4 0) (get_or row 5 0) (get_or row 7 0)
  row_write e = rw (eq-eqb _ _ e)

  pub row_read : (get_or row 0 0 ≡ 0 → ⊥) → row_text row ≡ read_text (get_or row 1 0) (get_or row 2 0) (get_or row 4 0) (get_or row 5 0) (get_or row 6 0)
  row_read n = rw (ne_eqb _ _ n)

-- a text that is printed, by another name
pub printed_as : (out : List ℕ) (at bound : ℕ) {text named : List ℕ} {next : ℕ} {left : List ℕ} → named ≡ text → Printed out at text next left × (next ≤ bound) → Printed out at named next left × (next ≤ bound)
printed_as out at bound {next = next} {left = left} e p = (subst (λ (x : List ℕ). Printed out at x next left) (sym e) p.0, p.1)

-- one row more
pub rows_more : (n : ℕ) (list : List ℕ) → rows_text list (suc n) ≡ rows_text list n ++ row_text (take line_width (drop (line_width * n) list))
unfolding rows_text
rows_more zero list = append-nil (row_text (take line_width list))
rows_more (suc n) list =
    let m : line_width * suc n ≡ line_width + line_width * n = omega arith in
    ap (λ (l : List ℕ). row_text (take line_width list) ++ l)
    (rows_more n (drop line_width list) ∙ ap (λ (l : List ℕ). rows_text (drop line_width list) n ++ row_text (take line_width l)) (drop-drop (line_width * n) line_width list ∙ ap (λ (k : ℕ). drop k list) (sym m)))
    ∙ sym (append_assoc (row_text (take line_width list)) (rows_text (drop line_width list) n) (row_text (take line_width (drop (line_width * suc n) list))))

-- no row is printed
pub printed_no-row : (out list : List ℕ) (at : ℕ) → at ≤ length out → Printed out at (rows_text list 0) at out
unfolding rows_text
printed_no-row out list at h = printed-none out at h

-- a row more is printed
pub printed-row : (out list : List ℕ) (at i : ℕ) {left last : List ℕ} {next end : ℕ} → at ≤ length out → Printed out at (rows_text list i) next left →
    Printed left next (row_text (take (line_width * i + line_width - line_width * i) (drop (line_width * i) list))) end last → Printed out at (rows_text list (i + 1)) end last
printed-row out list at i {left} {last} {next} {end} h p q =
    let w : line_width * i + line_width - line_width * i ≡ line_width = omega arith in
    let q' : Printed left next (row_text (take line_width (drop (line_width * i) list))) end last = subst (λ (n : ℕ). Printed left next (row_text (take n (drop (line_width * i) list))) end last) w q in
    rw (add-one i) (subst (λ (x : List ℕ). Printed out at x end last) (sym (rows_more i list)) (printed_then out (rows_text list i) (row_text (take line_width (drop (line_width * i) list))) at h p q'))

-- the rows of some lines, whatever stands behind them
rows_of-lines : (t : Tables) (lines : List Line) (rest : List ℕ) → rows_text (flat_map (line_words t) lines ++ rest) (length lines) ≡ flat_map (λ line. row_text (line_words t line)) lines
unfolding rows_text flat_map
rows_of-lines t [] rest = refl
rows_of-lines t (write place ∷ lines) rest = ap (λ (l : List ℕ). row_text (line_words t (write place)) ++ l) (rows_of-lines t lines rest)
rows_of-lines t (read place ∷ lines) rest = ap (λ (l : List ℕ). row_text (line_words t (read place)) ++ l) (rows_of-lines t lines rest)

-- a listing's answer and list, where there is room for every register
module _ (t : Tables) (s : Sound t) (list : List ℕ) (room : line_width * most_lines ≤ length list) where
  listed-fits : list_register t list ≡ listing (Rows (length (register t))) (register_words t ++ drop (line_width * length (register t)) list)
  unfolding list_register listed_sound
  listed-fits =
      let f : line_width * length (register t) ≤ length list = omega (arith, register_few t s, room) in
      rw (facts-sound t s, le-ltb _ _ f)

  -- the rows it says that it laid
  abbrev rows_of : Listed → ℕ
  rows_of (Rows n) = n
  rows_of (Refused n) = 0

  module _ (left : List ℕ) where
    rows-listed : (n : ℕ) → listing (Rows n) left ≡ list_register t list → rows_text left n ≡ register_text t
    rows-listed n e =
        let f = e ∙ listed-fits in
        let l : left ≡ register_words t ++ drop (line_width * length (register t)) list = ap (λ (x : Listing). x.list) f in
        let r : n ≡ length (register t) = ap (λ (x : Listing). rows_of x.answer) f in
        rw (l, r) (rows_of-lines t (register t) (drop (line_width * length (register t)) list))

    rows_few : (n : ℕ) → listing (Rows n) left ≡ list_register t list → n ≤ most_lines
    rows_few n e =
        let r : n ≡ length (register t) = ap (λ (x : Listing). rows_of x.answer) (e ∙ listed-fits) in
        omega (arith, r, register_few t s)

    -- it is not refused
    abbrev is_rows : Listed → Bool
    is_rows (Rows n) = true
    is_rows (Refused n) = false

    not-refused : (n : ℕ) → listing (Refused n) left ≡ list_register t list → ⊥
    not-refused n e = true≢false (sym (ap (λ (x : Listing). is_rows x.answer) (e ∙ listed-fits)))

    -- as the code meets it: the answer, and what it was told of it
    module _ {r : Listed} (told : listing r left ≡ list_register t list) where
      pub asked_rows : {n : ℕ} → r ≡ Rows n → length left ≡ length list → (line_width * n ≤ length left) × (n ≤ most_lines)
      asked_rows {n} e l =
          let f = rows_few n (ap (λ (x : Listed). listing x left) (sym e) ∙ told) in
          (omega (arith, f, l, room), f)

      pub print-listed : {n : ℕ} → r ≡ Rows n → (out : List ℕ) (at next : ℕ) (last : List ℕ) → Printed out at (rows_text left n) next last → Printed out at (register_text t) next last
      print-listed {n} e out at next last p = subst (λ (x : List ℕ). Printed out at x next last) (rows-listed n (ap (λ (x : Listed). listing x left) (sym e) ∙ told)) p

      pub never-refused : {n : ℕ} → r ≡ Refused n → ⊥
      never-refused {n} e = not-refused n (ap (λ (x : Listed). listing x left) (sym e) ∙ told)
