-- The rule of the table, proved at each of its entries by one computed test.
use Rattle.std.specs.Prelude.{ℕ, zero, suc, ◌+◌, ◌*◌, ◌≤◌, ◌<◌, ◌≡◌, refl, Bool, true, false, cond, not, ◌&&◌, ◌||◌, List, [], eqb, leb, ltb, length, get_or}
use Rattle.std.proofs.Common.{sym, ap, ◌∙◌, mul-le-mul, arith}
use Rattle.std.proofs.Math.ListN.{get_or-eq_default}
use borrow.Author.Tests.{eqb-true, eq-eqb, ne_eqb, leb-true, ltb-true, ltb-false, not-true}
use Rattle.ranges.specs.Tests.{either, by-test, both_left, both_right}
use Rattle.ranges.specs.All.{all_below}
use Rattle.ranges.specs.AllLaws.{all_at}
use Rattle.frame_table.specs.declared.Field.{Field}
use Rattle.frame_table.specs.declared.Shape.{Shape}
use Rattle.frame_table.specs.Table.{none, server, coord, own, of, badge, less, many_place, entry_place, badge_place}
use Rattle.frame_table.specs.Table.{entry_fields, kinds, sorts, header_bits, most_entries}
use Rattle.frame_table.specs.Table.{shape, by_kind, shape_of, bare, bodies, row_with, row_of, sort_at, bits_of, least_of, most_of, limits_of}
use Rattle.frame_table.specs.Table.{entries_in, has_badges}

-- the place of the fixed body's first field, how many fields it has, and how many places a row has
abbrev pub body_place : ℕ
body_place = 3

abbrev pub body_fields : ℕ
body_fields = 6

abbrev pub row_places : ℕ
row_places = 13

-- the bits of n fields of a kind from a place on
unfoldable pub bits_from : ℕ → ℕ → ℕ → ℕ
bits_from kind place zero = 0
bits_from kind place (suc n) = bits_of (sort_at kind place) + bits_from kind (place + 1) n

-- What holds of a kind: its fields are thirteen, the header has 13 bits, the table's columns "fixed body bits" and "bits per entry" are
-- the sums of the fields' bits, and a frame has at most 256 entries.
pub record Row (kind : ℕ) : Type 0 where
  pub places : length (row_of kind) ≡ row_places
  pub header : bits_from kind 0 body_place ≡ header_bits
  pub body : bits_from kind body_place body_fields ≡ (shape_of kind).body
  pub entry : bits_from kind entry_place entry_fields ≡ (shape_of kind).entry
  pub few : (limits_of (sort_at kind many_place)).most < most_entries
  pub plain : eqb (sort_at kind many_place) own ≡ false

unfoldable pub row_right : ℕ → Bool
row_right kind =
    eqb (length (row_of kind)) row_places
    && (eqb (bits_from kind 0 body_place) header_bits
    && (eqb (bits_from kind body_place body_fields) (shape_of kind).body
    && (eqb (bits_from kind entry_place entry_fields) (shape_of kind).entry
    && (ltb (limits_of (sort_at kind many_place)).most most_entries && not (eqb (sort_at kind many_place) own)))))

-- the test
pub table_right : all_below row_right kinds ≡ true
unfolding all_below row_right bits_from sort_at bits_of
table_right = refl

-- beyond the table there is the header alone, with no target
pub shape-none : (kind : ℕ) → kinds ≤ kind → shape [] ≡ shape_of kind
shape-none kind h = ap shape (sym (get_or-eq_default by_kind [] h))

pub body-none : (kind : ℕ) → kinds ≤ kind → bare ≡ get_or bodies kind bare
body-none kind h = sym (get_or-eq_default bodies bare h)

-- the row of a kind, by its parts
pub row_by :
    (kind : ℕ) {target : ℕ} {body : List ℕ}
    → target ≡ (shape_of kind).target
    → body ≡ get_or bodies kind bare
    → row_with target body ≡ row_of kind
row_by kind e d i = row_with (e i) (d i)

pub row-none : (kind : ℕ) → kinds ≤ kind → row_with none bare ≡ row_of kind
row-none kind h = row_by kind (ap (λ (s : Shape). s.target) (shape-none kind h)) (body-none kind h)

-- the bits of the first field, which is the kind
abbrev pub kind_bits : ℕ
kind_bits = 4

-- a row tells what each field of a frame of the kind holds
pub row_at : (kind place : ℕ) → get_or (row_of kind) place none ≡ sort_at kind place
unfolding sort_at
row_at kind place = refl

-- each cell is one of the sixteen sorts, also beyond the row
pub sort_in :
    (row : List ℕ)
    → length row ≡ row_places
    → all_below (λ p. ltb (get_or row p none) sorts) row_places ≡ true
    → (place : ℕ)
    → get_or row place none < sorts
sort_in row l t place =
    by-test (ltb place row_places)
    (λ e. ltb-true _ _ (all_at (λ p. ltb (get_or row p none) sorts) row_places t place (ltb-true place row_places e)))
    (λ e.
    let h : length row ≤ place = omega (arith, ltb-false place row_places e) in
    let z : get_or row place none ≡ none = get_or-eq_default row none h in
    omega arith)

-- a number that is none of those below the next is beyond them, as the last arm of a `match` meets it
pub past : (n k : ℕ) → n ≤ k → (k ≡ n → ⊥) → suc n ≤ k
past n k h d = omega arith

pub limits_width : (sort : ℕ) {f : Field} → f ≡ limits_of sort → f.width ≡ bits_of sort
unfolding bits_of
limits_width sort e = ap (λ (f : Field). f.width) e

pub bits_most : (sort : ℕ) → sort < sorts → bits_of sort ≤ 32
unfolding all_below bits_of
bits_most sort h = leb-true _ _ (all_at (λ s. leb (bits_of s) 32) sorts refl sort h)

-- a field that the kind has is some bits wide
pub bits-some : (sort : ℕ) → sort < sorts → (sort ≡ none → ⊥) → 0 < bits_of sort
unfolding all_below bits_of
bits-some sort h d =
    ltb-true _ _ (rw (ne_eqb sort none d) at (all_at (λ s. eqb s none || ltb 0 (bits_of s)) sorts refl sort h))

-- the columns are small: nothing in them is above a count, a client, a badge and a setpoint
abbrev pub most_column : ℕ
most_column = 60

pub columns_small : (kind : ℕ) → kind < kinds → ((shape_of kind).body ≤ most_column) × ((shape_of kind).entry ≤ most_column)
unfolding all_below
columns_small kind h =
    let e = all_at (λ k. leb (shape_of k).body most_column && leb (shape_of k).entry most_column) kinds refl kind h in
    (leb-true _ _ (both_left _ _ e), leb-true _ _ (both_right (leb (shape_of kind).body most_column) _ e))

-- a target is one of two
pub target_is : (kind : ℕ) {s : Shape} → kind < kinds → s ≡ shape_of kind → (s.target ≡ coord → ⊥) → s.target ≡ server
unfolding all_below
target_is kind {s} h e d =
    let t = (shape_of kind).target in
    let a = all_at (λ k. eqb (shape_of k).target coord || eqb (shape_of k).target server) kinds refl kind h in
    let q = ap (λ (u : Shape). u.target) e in
    q ∙ eqb-true t server (rw (ne_eqb t coord (λ z. d (q ∙ z))) at a)

-- beyond the table there are no entries
pub many-none : (kind : ℕ) → kinds ≤ kind → sort_at kind many_place ≡ none
many-none kind h = sym (row_at kind many_place) ∙ ap (λ (r : List ℕ). get_or r many_place none) (sym (row-none kind h))

-- a badge behind a key is a badge wherever it has bits
pub badge_wide : (kind : ℕ) → (bits_of (sort_at kind badge_place) ≡ 0 → ⊥) → bits_of (sort_at kind badge_place) ≡ bits_of badge
unfolding all_below sort_at bits_of
badge_wide kind d =
    by-test (ltb kind kinds)
    (λ e.
    let bits : ℕ → ℕ = λ k. bits_of (sort_at k badge_place) in
    let a = all_at (λ k. eqb (bits k) 0 || eqb (bits k) (bits_of badge)) kinds refl kind (ltb-true kind kinds e) in
    eqb-true _ _ (rw (ne_eqb (bits kind) 0 d) at a))
    (λ e. absurd (d (ap (λ (r : List ℕ). bits_of (get_or r badge_place none)) (sym (row-none kind (ltb-false kind kinds e))))))

-- the cases of the limits, as the code meets them: `plain` is the one that stands for the sort
module _ (sort client before : ℕ) where
  pub least-own : sort ≡ own → client ≡ least_of sort client
  unfolding least_of
  least-own e = rw (eq-eqb sort own e)

  pub least_other : {plain : ℕ} → plain ≡ (limits_of sort).least → (sort ≡ own → ⊥) → plain ≡ least_of sort client
  unfolding least_of
  least_other p d = rw (ne_eqb sort own d) p

  pub most-own : sort ≡ own → client ≡ most_of sort client before
  unfolding most_of
  most-own e = rw (eq-eqb sort own e)

  pub most-opening : (sort ≡ own → ⊥) → before ≡ 0 → sort ≡ of → 0 ≡ most_of sort client before
  unfolding most_of
  most-opening d z e = rw (ne_eqb sort own d, eq-eqb sort of e, eq-eqb before 0 z)

  module _ {plain : ℕ} (p : plain ≡ (limits_of sort).most) (d : sort ≡ own → ⊥) where
    pub most_other : (sort ≡ of → ⊥) → plain ≡ most_of sort client before
    unfolding most_of
    most_other f = rw (ne_eqb sort own d, ne_eqb sort of f) p

    pub most_of_key : (before ≡ 0 → ⊥) → sort ≡ of → plain ≡ most_of sort client before
    unfolding most_of
    most_of_key z e = rw (ne_eqb sort own d, eq-eqb sort of e, ne_eqb before 0 z) p

-- the number of entries, by what the field that says it holds
pub entries_by : (kind v : ℕ) {sort n : ℕ} → sort ≡ sort_at kind many_place → n ≡ cond (eqb sort less) (v + 1) v → n ≡ entries_in kind v
unfolding entries_in
entries_by kind v e d = d ∙ ap (λ (s : ℕ). cond (eqb s less) (v + 1) v) e

pub entries-most : (kind v : ℕ) → entries_in kind v ≤ v + 1
unfolding entries_in
entries-most kind v = either (λ n. n ≤ v + 1) (eqb (sort_at kind many_place) less) (omega arith) (omega arith)

-- the bits of the most entries that there can be are not too many
pub entries_fit : (kind n : ℕ) → kind < kinds → n ≤ most_entries → n * (shape_of kind).entry ≤ most_entries * most_column
entries_fit kind n h l = mul-le-mul l (columns_small kind h).1

-- whether the entries have badges, by the row of their kind
pub badged_by : (kind : ℕ) {row : List ℕ} → row ≡ row_of kind → not (eqb (get_or row badge_place 0) none) ≡ has_badges kind
unfolding has_badges
badged_by kind e =
    ap (λ (r : List ℕ). not (eqb (get_or r badge_place 0) none)) e ∙ ap (λ (s : ℕ). not (eqb s none)) (row_at kind badge_place)

-- each cell of a row is one of the sorts
module _ (kind : ℕ) {row : List ℕ} (er : row ≡ row_of kind) where
  pub sort_is : (place : ℕ) → get_or row place 0 ≡ sort_at kind place
  sort_is place = ap (λ (r : List ℕ). get_or r place 0) er ∙ row_at kind place
