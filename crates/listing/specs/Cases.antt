-- The lines of one tag more, and the cases of the answer, as the code meets them.
use Rattle.std.specs.Prelude.{ℕ, suc, ◌+◌, ◌-◌, ◌*◌, ◌≤◌, ◌<◌, ◌≡◌, Bool, true, not}
use mathlib.Core.List.{List, ◌++◌, map}
use Rattle.std.proofs.Common.{arith, lt-ltb, le-ltb}
use Rattle.std.proofs.Math.Numerals.{add-one}
use Rattle.std.proofs.Math.ListN.{length, length-append, length-map}
use Rattle.tables.specs.Tables.{Tables, entries_of, writes_of, reads_of}
use Rattle.soundness.specs.Sound.{sound}
use Rattle.soundness.specs.Facts.{Sound, facts-sound}
use Rattle.listing.specs.Listed.Listed.{Rows, Refused}
use Rattle.listing.specs.Register.{has_tag, places_below, passing, writes_of_tag, reads_of_tag, listed_to, register, line_width, Line, write, read, read_words, words_of_line, line_words, listing, listed_sound, list_register}
use Rattle.listing.specs.Laid.{Laid, Room, laid-length, laid_more, laid_front, laid-reads, line_wide}
use Rattle.listing.specs.Lengths.{lines_in, register-length, fewer-lines}
use Rattle.listing.specs.Ready.{InOrder, Listable}

-- the lines of a tag, by the READs in order
abbrev pub tag_lines : List ℕ → ℕ → List ℕ → List ℕ → ℕ → List Line
tag_lines writes begun reads order tag = map write (places_below (has_tag writes tag) begun) ++ map read (passing (has_tag reads tag) order)

module _ (t : Tables) (a : Listable t.counts t.writes t.reads) where
  pub lines-counted : length (register t) ≡ lines_in t.counts t.writes t.reads
  lines-counted = register-length t a.write_tag a.read_tag

  module _ {begun : ℕ} {order : List ℕ} (d : begun ≡ writes_of t) (o : InOrder t.reads (reads_of t) order) where
    -- the READs of tag 0
    pub room-first : (list : List ℕ) → line_width * lines_in t.counts t.writes t.reads ≤ length list → Room (length (passing (has_tag t.reads 0) order)) 0 list
    unfolding listed_to
    room-first list h = rw o.are (omega (arith, h, lines-counted, fewer-lines t 0 (entries_of t - 1) (omega arith), length-map (reads_of_tag t 0) read))

    pub listed-first : {list : List ℕ} {next : ℕ} {list' : List ℕ} → Laid (read_words t.writes begun t.reads) (passing (has_tag t.reads 0) order) 0 list next list' →
        Laid (line_words t) (listed_to t 0) 0 list next list'
    unfolding listed_to
    listed-first l = laid-reads t.writes (writes_of t) t.reads (rw (d, o.are) at l)

    -- one tag more
    module _ (n : ℕ) {list : List ℕ} {next : ℕ} {list' : List ℕ} (l : Laid (line_words t) (listed_to t n) 0 list next list') where
      pub room-more : n + 1 < entries_of t → line_width * lines_in t.counts t.writes t.reads ≤ length list → Room (length (places_below (has_tag t.writes (n + 1)) begun) + length (passing (has_tag t.reads (n + 1)) order)) next list'
      unfolding listed_to
      room-more h g =
          let f = fewer-lines t (suc n) (entries_of t - 1) (omega arith) in
          rw (d, o.are, add-one n)
          (omega (arith, g, lines-counted, f, l.lines, laid-length (line_words t) l, length-append (listed_to t n) (map write (writes_of_tag t (suc n)) ++ map read (reads_of_tag t (suc n))), length-append (map write (writes_of_tag t (suc n))) (map read (reads_of_tag t (suc n))), length-map (writes_of_tag t (suc n)) write, length-map (reads_of_tag t (suc n)) read))

      pub listed_more : {last : ℕ} {list'' : List ℕ} → Laid (words_of_line t.writes begun t.reads) (tag_lines t.writes begun t.reads order (n + 1)) next list' last list'' →
          Laid (line_words t) (listed_to t (n + 1)) 0 list last list''
      unfolding listed_to
      listed_more m = rw (add-one n) (laid_more (line_words t) (line_wide t.writes (writes_of t) t.reads) l (rw (d, o.are, add-one n) at m))

  -- the answers on sound tables; n is the number of lines counted
  module _ {n : ℕ} (e : n ≡ lines_in t.counts t.writes t.reads) (list : List ℕ) where
    pub list_short : length list < line_width * n → listing (Refused 12) list ≡ listed_sound t list
    unfolding listed_sound
    list_short h = rw (lt-ltb (length list) (line_width * length (register t)) (omega (arith, h, e, lines-counted)))

    pub list-laid : line_width * n ≤ length list → {r : ℕ} {list' : List ℕ} → Laid (line_words t) (register t) 0 list r list' → listing (Rows r) list' ≡ listed_sound t list
    unfolding listed_sound
    list-laid h l =
        let g : line_width * length (register t) ≤ length list = omega (arith, h, e, lines-counted) in
        let f = laid_front (line_words t) (line_wide t.writes (writes_of t) t.reads) g l in
        rw (le-ltb (length list) (line_width * length (register t)) g, f.0, f.1)

-- number 2, or the listing of tables found sound
pub list_unsound : (t : Tables) (list : List ℕ) {b : Bool} → b ≡ sound t → not b ≡ true → listing (Refused 2) list ≡ list_register t list
unfolding list_register
list_unsound t list d e = rw (← d, e)

pub list-sound : (t : Tables) (list : List ℕ) → Sound t → listed_sound t list ≡ list_register t list
unfolding list_register
list-sound t list s = rw (facts-sound t s)
