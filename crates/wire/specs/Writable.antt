-- When a message can be written, kind by kind: every value stands in its field.
use Rattle.std.specs.Prelude.{ℕ, zero, suc, ◌+◌, ◌-◌, ◌*◌, ◌/◌, ◌%◌, ◌≤◌, ◌<◌, ◌^◌, ◌≡◌, Bool, cond, ◌&&◌, eqb, leb, ltb, length, get_or}
use Rattle.std.proofs.Math.Path.{refl}
use Rattle.std.proofs.Common.{ap, ◌∙◌, arith, lt-ltb, le-leb, eq-eqb, ne_eqb}
use Rattle.std.proofs.Math.Bool.{true, false}
use mathlib.Core.List.{List, [], ◌∷◌}
use Rattle.ranges.specs.Tests.{by_equal, both}
use Rattle.keys.specs.declared.Key.{Key}
use Rattle.formats.specs.declared.state.State.{State}
use Rattle.formats.specs.Grammar.{good}
use Rattle.frame_table.specs.Table.{entry_place, owner_place, badge_place, number_place, entry_fields, count, of, sort_at, bits_of, least_of}
use Rattle.frame_table.specs.Table.{most_of, entries_in, has_badges}
use Rattle.formats.specs.Format.{field_of, within, left_after, place_after, next_of, entries, fixed, format}
use Rattle.frames.specs.declared.Message.TheVariants.{Set, SetDone, Enter, Entered, WhichKeys, Keys, Get, Got, GetAll, All, GetLog, Log}
use Rattle.ranges.specs.Laid.{built}
use Rattle.ranges.specs.LaidLaws.{built-first}
use Rattle.formats.specs.Entries.{entry_value}
use Rattle.formats.specs.EntryLaws.{part_count, part-client, part-badge, part-number}
use Rattle.frames.specs.Entries.{values_of}
use Rattle.frames.specs.Frames.{has_places, writable}

-- a value stands in a field: below a power of 2, and from the least to the greatest
stands : (m least v most : ℕ) → v < m → least ≤ v → v ≤ most → (ltb v m && (leb least v && leb v most)) ≡ true
stands m least v most h l g = rw (lt-ltb v m h, le-leb least v l, le-leb v most g)

-- a key that can stand in a frame: "a key of count 0 with a panel above 0" is broken
pub record KeyFits (n p : ℕ) : Type 0 where
  pub count : n < 256
  pub client : p < 16
  pub first : n ≡ 0 → p ≡ 0

module _ (n p : ℕ) (f : KeyFits n p) where
  count_stands : (ltb n 256 && (leb 0 n && leb n 255)) ≡ true
  count_stands = stands 256 0 n 255 f.count (omega arith) (omega (arith, f.count))

  of_stands : (ltb p 16 && (leb 0 p && leb p (cond (eqb n 0) 0 15))) ≡ true
  of_stands =
      by_equal n 0
      (λ e. rw (eq-eqb n 0 e) (stands 16 0 p 0 f.client (omega arith) (omega (arith, f.first e))))
      (λ d. rw (ne_eqb n 0 d) (stands 16 0 p 15 f.client (omega arith) (omega (arith, f.client))))

tag_stands : (t : ℕ) → t < 256 → (ltb t 256 && (leb 0 t && leb t 255)) ≡ true
tag_stands t h = stands 256 0 t 255 h (omega arith) (omega arith)

badge_stands : (b : ℕ) → b < 65536 → (ltb b 65536 && (leb 0 b && leb b 65535)) ≡ true
badge_stands b h = stands 65536 0 b 65535 h (omega arith) (omega arith)

setpoint_stands : (s : ℕ) → s < 4294967296 → (ltb s 4294967296 && (leb 0 s && leb s 4294967295)) ≡ true
setpoint_stands s h = stands 4294967296 0 s 4294967295 h (omega arith) (omega arith)

mask_stands : (m : ℕ) → 1 ≤ m → m < 65536 → (ltb m 65536 && (leb 1 m && leb m 65535)) ≡ true
mask_stands m h g = stands 65536 1 m 65535 g h (omega arith)

-- ---- messages with no entries

module _ (q : ℕ) (q-fits : q < 16) where
  client_stands : (ltb q 16 && (leb 0 q && leb q 15)) ≡ true
  client_stands = stands 16 0 q 15 q-fits (omega arith) (omega arith)

  -- a WRITE's own key
  own_stands : (n p : ℕ) → p ≡ q → (ltb p 16 && (leb q p && leb p q)) ≡ true
  own_stands n p e = stands 16 q p q (omega arith) (omega arith) (omega arith)

  one_stands : (n : ℕ) → 1 ≤ n → n < 256 → (ltb n 256 && (leb 1 n && leb n 255)) ≡ true
  one_stands n h g = stands 256 1 n 255 g h (omega arith)

  pub enter-writable : (key : Key) (mask : ℕ) → 1 ≤ key.count → key.count < 256 → key.client ≡ q → 1 ≤ mask → mask < 65536
      → writable (Enter q key mask) [] [] [] ≡ true
  unfolding writable has_places values_of built good format fixed entries next_of place_after left_after field_of within sort_at bits_of least_of
      most_of entries_in has_badges
  enter-writable key mask h g e a b =
      both _ _ client_stands
      (both _ _ (one_stands key.count h g)
      (both _ _ (own_stands key.count key.client e) (both _ _ (mask_stands mask a b) refl)))

  pub entered-writable : (tag : ℕ) → 1 ≤ tag → tag < 256 → writable (Entered q tag) [] [] [] ≡ true
  unfolding writable has_places values_of built good format fixed entries next_of place_after left_after field_of within sort_at bits_of least_of
      most_of entries_in has_badges
  entered-writable tag h g = both _ _ client_stands (both _ _ (one_stands tag h g) refl)

  pub which-keys-writable : writable (WhichKeys q) [] [] [] ≡ true
  unfolding writable has_places values_of built good format fixed entries next_of place_after left_after field_of within sort_at bits_of least_of
      most_of entries_in has_badges
  which-keys-writable = both _ _ client_stands refl

  pub get-log-writable : writable (GetLog q) [] [] [] ≡ true
  unfolding writable has_places values_of built good format fixed entries next_of place_after left_after field_of within sort_at bits_of least_of
      most_of entries_in has_badges
  get-log-writable = both _ _ client_stands refl

  module _ (i : ℕ) (i-fits : i < 16) where
    server_stands : (ltb i 32 && (leb 0 i && leb i 15)) ≡ true
    server_stands = stands 32 0 i 15 (omega arith) (omega arith) (omega arith)

    pub set-writable : (key : Key) (b s : ℕ) → 1 ≤ key.count → key.count < 256 → key.client ≡ q → b < 65536 → s < 4294967296
        → writable (Set q i key b s) [] [] [] ≡ true
    unfolding writable has_places values_of built good format fixed entries next_of place_after left_after field_of within sort_at bits_of least_of
        most_of entries_in has_badges
    set-writable key b s h g e small f =
        both _ _ client_stands
        (both _ _ server_stands
        (both _ _ (one_stands key.count h g)
        (both _ _ (own_stands key.count key.client e)
        (both _ _ (badge_stands b small) (both _ _ (setpoint_stands s f) refl)))))

    pub set_done-writable : writable (SetDone q i) [] [] [] ≡ true
    unfolding writable has_places values_of built good format fixed entries next_of place_after left_after field_of within sort_at bits_of least_of
        most_of entries_in has_badges
    set_done-writable = both _ _ client_stands (both _ _ server_stands refl)

    pub get-writable : (key : Key) → KeyFits key.count key.client → writable (Get q i key) [] [] [] ≡ true
    unfolding writable has_places values_of built good format fixed entries next_of place_after left_after field_of within sort_at bits_of least_of
        most_of entries_in has_badges
    get-writable key f =
        both _ _ client_stands
        (both _ _ server_stands
        (both _ _ (count_stands key.count key.client f) (both _ _ (of_stands key.count key.client f) refl)))

    pub got-writable : (b s : ℕ) → b < 65536 → s < 4294967296 → writable (Got q i b s) [] [] [] ≡ true
    unfolding writable has_places values_of built good format fixed entries next_of place_after left_after field_of within sort_at bits_of least_of
        most_of entries_in has_badges
    got-writable b s small f =
        both _ _ client_stands (both _ _ server_stands (both _ _ (badge_stands b small) (both _ _ (setpoint_stands s f) refl)))

    pub get-all-writable : writable (GetAll q i) [] [] [] ≡ true
    unfolding writable has_places values_of built good format fixed entries next_of place_after left_after field_of within sort_at bits_of least_of
        most_of entries_in has_badges
    get-all-writable = both _ _ client_stands (both _ _ server_stands refl)

-- ---- the entries

-- a list from its first four places on
built_four :
    (f : ℕ → ℕ) (n : ℕ)
    → built f (suc (suc (suc (suc n)))) ≡ f 0 ∷ f 1 ∷ f 2 ∷ f 3 ∷ built (λ i. f (suc (suc (suc (suc i))))) n
built_four f n =
    built-first f (suc (suc (suc n)))
    ∙ ap (λ (l : List ℕ). f 0 ∷ l)
    (built-first (λ i. f (suc i)) (suc (suc n))
    ∙ ap (λ (l : List ℕ). f 1 ∷ l)
    (built-first (λ i. f (suc (suc i))) (suc n) ∙ ap (λ (l : List ℕ). f 2 ∷ l) (built-first (λ i. f (suc (suc (suc i)))) n)))

-- the state ahead of an entry
abbrev ahead : ℕ → ℕ → ℕ → ℕ → State
ahead kind q before left = record { kind = kind; client = q; before = before; left = left; place = entry_place }

-- a value stands in the field at a place behind the key
abbrev place_stands : ℕ → ℕ → ℕ → ℕ → ℕ → Bool
place_stands place kind q before v =
    ltb v (2 ^ bits_of (sort_at kind place)) && (leb (least_of (sort_at kind place) q) v && leb v (most_of (sort_at kind place) q before))

-- an entry's four values stand in their fields
record EntryStands (kind q n p b v : ℕ) : Type 0 where
  key : KeyFits n p
  badge : place_stands badge_place kind q p b ≡ true
  number : place_stands number_place kind q b v ≡ true

module _ (kind q : ℕ) (counted : sort_at kind entry_place ≡ count) (owned : sort_at kind owner_place ≡ of) where
  -- one entry, then others
  entry-ahead :
      (n before left a b c d : ℕ) (vs : List ℕ)
      → EntryStands kind q a b c d
      → ((left' : ℕ) → good (entries n (ahead kind q d left')) vs ≡ true)
      → good (entries (suc (suc (suc (suc n)))) (ahead kind q before left)) (a ∷ b ∷ c ∷ d ∷ vs) ≡ true
  unfolding good entries next_of place_after left_after field_of within bits_of least_of most_of
  entry-ahead n before left a b c d vs e more =
      rw (counted, owned)
      (both _ _ (count_stands a b e.key)
      (both _ _ (of_stands a b e.key) (both _ _ e.badge (both _ _ e.number (more (left - 1 - 1 - 1 - 1))))))

  no-entry : (f : ℕ → ℕ) (before left : ℕ) → good (entries 0 (ahead kind q before left)) (built f 0) ≡ true
  unfolding good entries built
  no-entry f before left = refl

  entries-good :
      (f : ℕ → ℕ) (n before left : ℕ)
      → ((j : ℕ) → j < n
      → EntryStands kind q (f (entry_fields * j)) (f (entry_fields * j + 1)) (f (entry_fields * j + 2)) (f (entry_fields * j + 3)))
      → good (entries (entry_fields * n) (ahead kind q before left)) (built f (entry_fields * n)) ≡ true
  entries-good f zero before left h = no-entry f before left
  entries-good f (suc n) before left h =
      let m = entry_fields * n in
      let four : entry_fields * suc n ≡ suc (suc (suc (suc m))) = omega arith in
      ap (λ (k : ℕ). good (entries k (ahead kind q before left)) (built f k)) four
      ∙ ap (good (entries (suc (suc (suc (suc m)))) (ahead kind q before left))) (built_four f m)
      ∙ entry-ahead m before left (f 0) (f 1) (f 2) (f 3) (built (λ i. f (suc (suc (suc (suc i))))) m) (h 0 (omega arith))
      (λ left'. entries-good (λ i. f (suc (suc (suc (suc i))))) n (f 3) left' later)
    where
      later :
          (j : ℕ) → j < n
          → let k = entry_fields * j in
          EntryStands kind q (f (suc (suc (suc (suc k))))) (f (suc (suc (suc (suc (k + 1)))))) (f (suc (suc (suc (suc (k + 2))))))
          (f (suc (suc (suc (suc (k + 3))))))
      later j l =
          let k = entry_fields * j in
          let a : entry_fields * suc j ≡ suc (suc (suc (suc k))) = omega arith in
          let b : entry_fields * suc j + 1 ≡ suc (suc (suc (suc (k + 1)))) = omega arith in
          let c : entry_fields * suc j + 2 ≡ suc (suc (suc (suc (k + 2)))) = omega arith in
          let d : entry_fields * suc j + 3 ≡ suc (suc (suc (suc (k + 3)))) = omega arith in
          rw (d, c, b, a) at (h (suc j) (omega arith))

-- ---- messages with entries

-- the word of a key that can stand in a frame
abbrev pub WordFits : ℕ → Type 0
WordFits w = KeyFits (w / 256) (w % 256)

module _ (q : ℕ) (q-fits : q < 16) (n : ℕ) (some : 1 ≤ n) (keys : List ℕ) (long : n ≤ length keys)
    (keyed : (j : ℕ) → j < n → WordFits (get_or keys j 0)) where
  -- the entries of a kind, by what is so of their badges and their numbers
  module _ (kind : ℕ) (badged : Bool) (badges numbers : List ℕ)
      (marked : (j : ℕ) → j < n → place_stands badge_place kind q (get_or keys j 0 % 256) (cond badged (get_or badges j 0) 0) ≡ true)
      (numbered : (j : ℕ) → j < n → place_stands number_place kind q (cond badged (get_or badges j 0) 0) (get_or numbers j 0) ≡ true) where
    abbrev value : ℕ → ℕ
    value = entry_value badged keys badges numbers

    each :
        (j : ℕ) → j < n
        → EntryStands kind q (value (entry_fields * j)) (value (entry_fields * j + 1)) (value (entry_fields * j + 2))
        (value (entry_fields * j + 3))
    each j h =
        rw (
          part_count badged keys badges numbers j,
          part-client badged keys badges numbers j,
          part-badge badged keys badges numbers j,
          part-number badged keys badges numbers j,
        )
        (record { key = keyed j h; badge = marked j h; number = numbered j h })

  module _ (numbers : List ℕ) (long' : n ≤ length numbers) (few : n ≤ 256) where
    back : n - 1 + 1 ≡ n
    back = omega arith

    pub keys-writable : (tag : ℕ) → tag < 256 → n ≤ 16 →
        ((j : ℕ) → j < n → get_or numbers j 0 < 256) → writable (Keys q tag n) keys [] numbers ≡ true
    unfolding writable has_places values_of good format fixed next_of place_after left_after field_of within sort_at bits_of least_of most_of
        entries_in has_badges
    keys-writable tag h few fits =
        both _ _ (both _ _ (le-leb n (length keys) long) (both _ _ (le-leb n (length numbers) long') refl))
        (both _ _ (client_stands q q-fits)
        (both _ _ (tag_stands tag h)
        (both _ _ (stands 32 1 n 16 (omega arith) some few)
        (entries-good 6 q refl refl (entry_value false keys [] numbers) n n (entry_fields * n)
        (each 6 false [] numbers (λ j l. refl) (λ j l. tag_stands (get_or numbers j 0) (fits j l)))))))

    pub all-writable : (badges : List ℕ) → n ≤ length badges → (i : ℕ) → i < 16 → ((j : ℕ) → j < n → get_or badges j 0 < 65536)
        → ((j : ℕ) → j < n → get_or numbers j 0 < 4294967296) → writable (All q i n) keys badges numbers ≡ true
    unfolding writable has_places values_of good format fixed next_of place_after left_after field_of within sort_at bits_of least_of most_of
        entries_in has_badges
    all-writable badges long'' i h small fits =
        both _ _
        (both _ _ (le-leb n (length keys) long) (both _ _ (le-leb n (length numbers) long') (le-leb n (length badges) long'')))
        (both _ _ (client_stands q q-fits)
        (both _ _ (server_stands q q-fits i h)
        (both _ _ (stands 256 0 (n - 1) 255 (omega arith) (omega arith) (omega arith))
        (rw back
        (entries-good 10 q refl refl (entry_value true keys badges numbers) n (n - 1) (entry_fields * n)
        (each 10 true badges numbers (λ j l. badge_stands (get_or badges j 0) (small j l))
        (λ j l. setpoint_stands (get_or numbers j 0) (fits j l))))))))

    pub log-writable : ((j : ℕ) → j < n → 1 ≤ get_or numbers j 0) → ((j : ℕ) → j < n → get_or numbers j 0 < 65536)
        → writable (Log q n) keys [] numbers ≡ true
    unfolding writable has_places values_of good format fixed next_of place_after left_after field_of within sort_at bits_of least_of most_of
        entries_in has_badges
    log-writable least fits =
        both _ _ (both _ _ (le-leb n (length keys) long) (both _ _ (le-leb n (length numbers) long') refl))
        (both _ _ (client_stands q q-fits)
        (both _ _ (stands 256 0 (n - 1) 255 (omega arith) (omega arith) (omega arith))
        (rw back
        (entries-good 12 q refl refl (entry_value false keys [] numbers) n (n - 1) (entry_fields * n)
        (each 12 false [] numbers (λ j l. refl) (λ j l. mask_stands (get_or numbers j 0) (least j l) (fits j l)))))))
