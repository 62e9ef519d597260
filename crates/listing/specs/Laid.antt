-- Lines laid one behind another: what a list is after some lines, and one part of them behind another.
use Rattle.std.specs.Prelude.{ℕ, suc, ◌+◌, ◌*◌, ◌≤◌, ◌<◌, Bool, true, false, ◌≡◌, length, get_or, set, take, drop}
use Rattle.std.proofs.Math.Path.{refl, ap}
use Rattle.std.proofs.Common.{sym, ◌∙◌, arith}
use mathlib.Core.List.{List, [], ◌∷◌, ◌++◌, append_assoc, append-nil, map, flat_map}
use Rattle.std.proofs.Math.ListN.{length-append}
use Rattle.std.proofs.lemmas.List.{length-map}
use Rattle.std.proofs.lemmas.List.Edits.{sets, sets-eq}
use Rattle.std.proofs.Math.Seq.{length-sets, take-length}
use Rattle.tables.specs.Rows.{HasRow}
use Rattle.tables.specs.Layout.{record_word, begin_of_record, end_of_record, badge_of_record}
use Rattle.listing.specs.Register.{kept, places_below, passing, line_width, Line, write, read, write_words, read_words, record_words, overlap, words_of_line}
use Rattle.listing.specs.Places.{places-more, places_room, passing-more, passing_room}

-- lines laid from a line on: the next line, and the list
pub record Laid {A : Type 0} (words : A → List ℕ) (xs : List A) (line : ℕ) (list : List ℕ) (next : ℕ) (list' : List ℕ) : Type 0 where
  pub lines : next ≡ line + length xs
  pub laid : list' ≡ sets list (line_width * line) (flat_map words xs)

-- there is room for n lines from a line on
abbrev pub Room : ℕ → ℕ → List ℕ → Type 0
Room n line list = line_width * (line + n) ≤ length list

sets-append : (vs ws list : List ℕ) (at : ℕ) → sets (sets list at vs) (at + length vs) ws ≡ sets list at (vs ++ ws)
sets-append [] ws list at = let e : at + 0 ≡ at = omega arith in rw e
sets-append (v ∷ vs) ws list at = let e : at + suc (length vs) ≡ suc at + length vs = omega arith in rw e (sets-append vs ws (set list at v) (suc at))

module _ {A : Type 0} (words : A → List ℕ) where
  flat_append : (xs ys : List A) → flat_map words (xs ++ ys) ≡ flat_map words xs ++ flat_map words ys
  unfolding flat_map
  flat_append [] ys = refl
  flat_append (x ∷ xs) ys = rw (flat_append xs ys) (sym (append_assoc (words x) (flat_map words xs) (flat_map words ys)))

  pub laid_none : (line : ℕ) (list : List ℕ) → Laid words [] line list line list
  unfolding flat_map
  laid_none line list = record { lines = omega arith; laid = refl }

  pub laid-length : {xs : List A} {line : ℕ} {list : List ℕ} {next : ℕ} {list' : List ℕ} → Laid words xs line list next list' → length list' ≡ length list
  laid-length {xs} {line} {list} l = ap length l.laid ∙ length-sets list (line_width * line) (flat_map words xs)

  module _ (wide : (x : A) → length (words x) ≡ line_width) where
    pub flat-length : (xs : List A) → length (flat_map words xs) ≡ line_width * length xs
    unfolding flat_map
    flat-length [] = refl
    flat-length (x ∷ xs) = length-append (words x) (flat_map words xs) ∙ omega (arith, wide x, flat-length xs)

    -- lines behind lines
    pub laid_more : {xs ys : List A} {line : ℕ} {list : List ℕ} {next : ℕ} {list' : List ℕ} {last : ℕ} {list'' : List ℕ} →
        Laid words xs line list next list' → Laid words ys next list' last list'' → Laid words (xs ++ ys) line list last list''
    laid_more {xs} {ys} {line} {list} {next} {list'} {last} {list''} l m =
        let e : line_width * next ≡ line_width * line + length (flat_map words xs) = omega (arith, flat-length xs, l.lines) in
        record {
          lines = omega (arith, l.lines, m.lines, length-append xs ys);
          laid = m.laid ∙ rw (e, l.laid, flat_append xs ys) (sets-append (flat_map words xs) (flat_map words ys) list (line_width * line));
        }

    -- all lines, from the start of a list
    pub laid_front : {xs : List A} {list : List ℕ} {next : ℕ} {list' : List ℕ} → line_width * length xs ≤ length list → Laid words xs 0 list next list' →
        (next ≡ length xs) × (list' ≡ flat_map words xs ++ drop (line_width * length xs) list)
    laid_front {xs} {list} h l =
        (omega (arith, l.lines), l.laid ∙ sets-eq (flat_map words xs) list 0 (omega (arith, flat-length xs)) ∙ (let e : 0 + length (flat_map words xs) ≡ line_width * length xs = omega (arith, flat-length xs) in rw e))

-- the lines of places, as a loop lays them; a place that fails the test leaves no line
module _ (words : ℕ → List ℕ) (place line : ℕ) (list : List ℕ) {b : Bool} where
  pub laid_kept : b ≡ true → {list' : List ℕ} → list' ≡ sets list (line_width * line) (words place) → Laid words (kept b place) line list (line + 1) list'
  unfolding flat_map
  laid_kept e d = rw e (record { lines = refl; laid = d ∙ rw (append-nil (words place)) })

  pub laid_past : b ≡ false → Laid words (kept b place) line list line list
  laid_past e = rw e (laid_none words line list)

pub room-kept : (place line : ℕ) (list : List ℕ) {b : Bool} → b ≡ true → Room (length (kept b place)) line list → HasRow line_width list line
room-kept place line list e r = omega (arith, rw e at r)

module _ (words : ℕ → List ℕ) (wide : (place : ℕ) → length (words place) ≡ line_width) (p : ℕ → Bool) {line : ℕ} {list : List ℕ} {next : ℕ} {list' : List ℕ} where
  module _ (i : ℕ) (l : Laid words (places_below p i) line list next list') where
    pub laid-place : {last : ℕ} {list'' : List ℕ} → Laid words (kept (p i) i) next list' last list'' → Laid words (places_below p (i + 1)) line list last list''
    laid-place m = rw (places-more p i) (laid_more words wide l m)

    pub room-place : (n : ℕ) → i < n → Room (length (places_below p n)) line list → Room (length (kept (p i) i)) next list'
    room-place n h r = omega (arith, r, l.lines, laid-length words l, places_room p i n h)

  module _ (places : List ℕ) (i : ℕ) (l : Laid words (passing p (take i places)) line list next list') where
    pub laid-passing : i < length places → {last : ℕ} {list'' : List ℕ} → Laid words (kept (p (get_or places i 0)) (get_or places i 0)) next list' last list'' → Laid words (passing p (take (i + 1) places)) line list last list''
    laid-passing h m = rw (passing-more p places i h) (laid_more words wide l m)

    pub room-passing : i < length places → Room (length (passing p places)) line list → Room (length (kept (p (get_or places i 0)) (get_or places i 0))) next list'
    room-passing h r =
        let m = rw (take-length places) at (passing_room p places i (length places) h (omega arith)) in
        omega (arith, r, l.lines, laid-length words l, m)

-- the line of a READ: its record, with the overlap of its begin and end
pub read-line : (writes : List ℕ) (n : ℕ) (reads : List ℕ) (place line : ℕ) (list : List ℕ) {begin end over : ℕ} {list' : List ℕ} →
    begin ≡ record_word reads place begin_of_record → end ≡ record_word reads place end_of_record → over ≡ overlap writes n begin end →
    list' ≡ sets list (line_width * line) (record_words 1 reads place over 0) →
    list' ≡ sets list (line_width * line) (read_words writes n reads place)
read-line writes n reads place line list b e o l = l ∙ rw (o, b, e)

-- the line of a WRITE: its record, with its badge
pub write-line : (writes : List ℕ) (place line : ℕ) (list : List ℕ) {badge : ℕ} {list' : List ℕ} →
    badge ≡ record_word writes place badge_of_record → list' ≡ sets list (line_width * line) (record_words 0 writes place 0 badge) →
    list' ≡ sets list (line_width * line) (write_words writes place)
write-line writes place line list b l = l ∙ rw b

-- the lines of WRITEs and those of READs among all lines
module _ (writes : List ℕ) (n : ℕ) (reads : List ℕ) where
  pub line_wide : (line : Line) → length (words_of_line writes n reads line) ≡ line_width
  line_wide (write place) = refl
  line_wide (read place) = refl

  flat-writes : (places : List ℕ) → flat_map (write_words writes) places ≡ flat_map (words_of_line writes n reads) (map write places)
  unfolding flat_map
  flat-writes [] = refl
  flat-writes (place ∷ places) = ap (λ (l : List ℕ). write_words writes place ++ l) (flat-writes places)

  flat-reads : (places : List ℕ) → flat_map (read_words writes n reads) places ≡ flat_map (words_of_line writes n reads) (map read places)
  unfolding flat_map
  flat-reads [] = refl
  flat-reads (place ∷ places) = ap (λ (l : List ℕ). read_words writes n reads place ++ l) (flat-reads places)

  module _ {places : List ℕ} {line : ℕ} {list : List ℕ} {next : ℕ} {list' : List ℕ} where
    pub laid-writes : Laid (write_words writes) places line list next list' → Laid (words_of_line writes n reads) (map write places) line list next list'
    laid-writes l = record { lines = l.lines ∙ rw (length-map places write); laid = l.laid ∙ rw (flat-writes places) }

    pub laid-reads : Laid (read_words writes n reads) places line list next list' → Laid (words_of_line writes n reads) (map read places) line list next list'
    laid-reads l = record { lines = l.lines ∙ rw (length-map places read); laid = l.laid ∙ rw (flat-reads places) }

  -- the lines of a tag: its WRITEs, then its READs
  module _ (ws rs : List ℕ) (line : ℕ) (list : List ℕ) where
    pub laid-tag : {next : ℕ} {list' : List ℕ} {last : ℕ} {list'' : List ℕ} → Laid (write_words writes) ws line list next list' → Laid (read_words writes n reads) rs next list' last list'' →
        Laid (words_of_line writes n reads) (map write ws ++ map read rs) line list last list''
    laid-tag l m = laid_more (words_of_line writes n reads) line_wide (laid-writes l) (laid-reads m)
