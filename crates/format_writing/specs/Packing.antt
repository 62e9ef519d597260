-- A frame's values as the writer goes over them: the fixed ones by the table, then the entries, a key, a badge and a number each; and that
-- the grammar says the same.
use Rattle.std.specs.Prelude.{◌≡◌, Bool, true, false, cond, not, ◌&&◌, leb, ltb, eqb}
use Rattle.std.proofs.Math.Path.{refl, sym, ap, ap₂, subst}
use Rattle.std.proofs.Common.{◌∙◌, true≢false, length-append, length-drop, drop-cons, get_or-append-add}
use Prim.Native.Nat.{ℕ, zero, suc, ◌+◌, ◌-◌, ◌*◌, ◌/◌, ◌%◌, ◌^◌, ◌≤◌, ◌<◌}
use native.Mathlib.Omega.{arith}
use Rattle.std.proofs.Math.Numerals.{add-one}
use mathlib.Core.List.{List, [], ◌∷◌}
use Rattle.std.proofs.Math.ListN.{length, get_or, drop, get_or-append}
use Rattle.std.proofs.Math.Seq.{drop-length}
use borrow.Author.Tests.{le-leb, lt-leb, leb-true, leb-false, lt-ltb, le-ltb, ltb-true, ltb-false, eq-eqb, ne_eqb}
use Rattle.ranges.specs.Tests.{by-test, by_equal, both_left, both_right, fails, holds}
use Rattle.ranges.specs.All.{all_below}
use Rattle.ranges.specs.AllLaws.{all_at, all_same, all-next}
use Rattle.ranges.specs.Sum.{sum_below}
use Rattle.ranges.specs.SumLaws.{sum_more}
use Rattle.ranges.specs.Laid.{built}
use Rattle.ranges.specs.LaidLaws.{built-length, built_at}
use Rattle.fields.specs.Bits.{bit_at, field_at, put_field}
use Rattle.fields.specs.BitLaws.{Bytes, bytes-equal}
use Rattle.fields.specs.FieldLaws.{length-put_field, put_other, put-found, put_bytes, field-same, field_bits, field_join}
use Rattle.fields.specs.Parts.{put_by_bytes}
use Rattle.fields.specs.ByBytes.{put_by_bytes_lem}
use Rattle.frame_table.specs.declared.Field.{Field}
use Rattle.formats.specs.declared.state.State.{State}
use Rattle.frame_table.specs.declared.Behind.{Behind}
use Rattle.formats.specs.Grammar.{Grammar, end, field, good, size, lay}
use Rattle.frame_table.specs.Table.{none, count, of, many_place, entry_place, badge_place, number_place, fixed_fields}
use Rattle.frame_table.specs.Table.{entry_fields, sort_at, bits_of, least_of}
use Rattle.frame_table.specs.Table.{sorts, most_of, limits_of, limit_row, row_of, has_badges, entries_in, entries_said, values_for}
use Rattle.frame_table.specs.TableLaws.{bits_from}
use Rattle.frame_table.proofs.TableLaws.{sort_small}
use Rattle.frame_table.specs.Columns.{most_bits, Places}
use Rattle.formats.specs.Format.{sort_of, width_of, field_of, within, allowed, next_of, one, start, entries, format}
use Rattle.formats.specs.FormatLaws.{Goes, goes-start, goes-next, Rowed, rowed-start, next_place, place_inner, field_is, at_most}
use Rattle.formats.specs.FormatLaws.{rest, rest-start, rest-one, rest_late}
use Rattle.formats.specs.Entries.{entry_value, values_by}
use Rattle.frame_table.specs.Entry.{count_bits, owner_bits, key_bits, badge_width, badge_bits, number_bits, number_least}
use Rattle.frame_table.specs.Entry.{behind_of, entry_bits}
use Rattle.frame_table.specs.Entry.{Slim, Plain, Keyed}
use Rattle.formats.specs.EntryFields.{owner_field, Ahead, ahead-next, ahead-again}
use Rattle.frame_table.specs.Entry.{badge-none}
use Rattle.frame_table.proofs.Entry.{badge-some}
use Rattle.formats.specs.EntryFields.{count-field, owner-field, badge-field, number-field}
use Rattle.formats.specs.EntryLaws.{part_count, part-client, part-badge, part-number}
use Rattle.formats.specs.Reading.{Said}
use Rattle.formats.specs.Judging.{said_keyed}
use Rattle.format_writing.specs.Writing.{rowed_on}
use Rattle.formats.specs.Walk.{state_at, first_bit, walk-place, walk-kind, walk-left, left-first, place_early, place_late}
use Rattle.formats.specs.Walk.{sized, entry_bits_lem}
use Rattle.format_writing.specs.Laying.{Layable, size_small}

-- ---- definitions

-- value i is one that its field may have
abbrev pub right_at : List ℕ → ℕ → Bool
right_at vs i = ltb (get_or vs i 0) (2 ^ width_of (state_at vs i)) && allowed (state_at vs i) (get_or vs i 0)

-- a key as a number is one that an entry may have, and a number
unfoldable pub key_right : ℕ → Bool
key_right key = leb (key / 256) 255 && (leb (key % 256) 15 && cond (eqb (key / 256) 0) (eqb (key % 256) 0) true)

unfoldable pub number_right : ℕ → ℕ → ℕ → Bool
number_right width least x = leb least x && ltb x (2 ^ width)

-- the badge of entry i; 0 where a badge has no bits
unfoldable pub badge_of : ℕ → List ℕ → ℕ → ℕ
badge_of width badges i = cond (eqb width 0) 0 (get_or badges i 0)

-- and so are n entries from the i-th on
unfoldable pub entries_right : Behind → List ℕ → List ℕ → List ℕ → ℕ → ℕ → Bool
entries_right b keys badges numbers i zero = true
entries_right b keys badges numbers i (suc n) =
    (key_right (get_or keys i 0)
    && (ltb (badge_of b.badge badges i) (2 ^ b.badge) && number_right b.width b.least (get_or numbers i 0)))
    && entries_right b keys badges numbers (suc i) n

-- the first i values laid into bytes
unfoldable pub laid_to : List ℕ → List ℕ → ℕ → List ℕ
laid_to vs bytes zero = bytes
laid_to vs bytes (suc i) = put_field (laid_to vs bytes i) (first_bit vs i) (width_of (state_at vs i)) (get_or vs i 0)

-- an entry laid into bytes, and n entries from the i-th on
unfoldable pub entry_laid : Behind → ℕ → ℕ → ℕ → List ℕ → ℕ → List ℕ
entry_laid b key badge number bytes at =
    put_field
    (put_field (put_field (put_field bytes at count_bits (key / 256)) (at + count_bits) owner_bits (key % 256)) (at + key_bits) b.badge badge)
    (at + key_bits + b.badge) b.width number

unfoldable pub entries_laid : Behind → List ℕ → List ℕ → List ℕ → ℕ → ℕ → List ℕ → ℕ → List ℕ
entries_laid b keys badges numbers i zero bytes at = bytes
entries_laid b keys badges numbers i (suc n) bytes at =
    entries_laid b keys badges numbers (suc i) n
    (entry_laid b (get_or keys i 0) (badge_of b.badge badges i) (get_or numbers i 0) bytes at) (at + entry_bits b)

-- ---- Booleans

and_assoc : (a b c : Bool) → (a && (b && c)) ≡ ((a && b) && c)
and_assoc true b c = refl
and_assoc false b c = refl

-- ---- the fixed values

module _ (vs : List ℕ) where
  pub goes_at : (i : ℕ) → i ≤ entry_place → Goes (state_at vs i)
  unfolding state_at
  goes_at zero h = goes-start
  goes_at (suc i) h = goes-next (state_at vs i) (get_or vs i 0) (goes_at i (omega arith)) (omega (arith, left-first vs i (omega arith)))

  module _ (l : entry_place ≤ length vs) where
    -- what is left of them decides
    good_from : (i : ℕ) → i ≤ entry_place → good format vs ≡ (all_below (right_at vs) i && good (rest (state_at vs i)) (drop i vs))
    unfolding state_at all_below good
    good_from zero h = ap (λ (g : Grammar). good g vs) rest-start
    good_from (suc i) h =
        let st = state_at vs i in
        let some : 0 < st.left = omega (arith, left-first vs i (omega arith)) in
        good_from i (omega arith)
        ∙ ap (λ (b : Bool). all_below (right_at vs) i && b)
        (ap₂ good (rest-one st (goes_at i (omega arith)) some) (drop-cons vs i 0 (omega arith)))
        ∙ and_assoc (all_below (right_at vs) i) (right_at vs i) (good (rest (next_of st (get_or vs i 0))) (drop (suc i) vs))

    -- what is left of them is laid behind the first ones
    lay_from :
        (bytes : List ℕ) (i : ℕ)
        → i ≤ entry_place
        → lay format vs bytes 0 ≡ lay (rest (state_at vs i)) (drop i vs) (laid_to vs bytes i) (first_bit vs i)
    unfolding state_at sum_below lay laid_to
    lay_from bytes zero h = ap (λ (g : Grammar). lay g vs bytes 0) rest-start
    lay_from bytes (suc i) h =
        let st = state_at vs i in
        let some : 0 < st.left = omega (arith, left-first vs i (omega arith)) in
        lay_from bytes i (omega arith)
        ∙ ap₂ (λ (g : Grammar) (us : List ℕ). lay g us (laid_to vs bytes i) (first_bit vs i)) (rest-one st (goes_at i (omega arith)) some)
        (drop-cons vs i 0 (omega arith))

-- lists alike at their first places go through the same states
module _ (us vs : List ℕ) where
  state-same : (i : ℕ) → ((j : ℕ) → j < i → get_or us j 0 ≡ get_or vs j 0) → state_at us i ≡ state_at vs i
  unfolding state_at
  state-same zero e = refl
  state-same (suc i) e = ap₂ next_of (state-same i (λ j h. e j (omega arith))) (e i (omega arith))

  bit-same : (i : ℕ) → ((j : ℕ) → j < i → get_or us j 0 ≡ get_or vs j 0) → first_bit us i ≡ first_bit vs i
  unfolding sum_below
  bit-same zero e = refl
  bit-same (suc i) e =
      ap₂ (λ (m n : ℕ). m + n) (bit-same i (λ j h. e j (omega arith))) (ap width_of (state-same i (λ j h. e j (omega arith))))

  right-same : (i : ℕ) → ((j : ℕ) → j ≤ i → get_or us j 0 ≡ get_or vs j 0) → right_at us i ≡ right_at vs i
  right-same i e =
      ap₂ (λ (st : State) (v : ℕ). ltb v (2 ^ width_of st) && allowed st v) (state-same i (λ j h. e j (omega arith))) (e i (omega arith))

  laid_same : (bytes : List ℕ) (i : ℕ) → ((j : ℕ) → j < i → get_or us j 0 ≡ get_or vs j 0) → laid_to us bytes i ≡ laid_to vs bytes i
  unfolding laid_to
  laid_same bytes zero e = refl
  laid_same bytes (suc i) e =
      let f : (j : ℕ) → j < i → get_or us j 0 ≡ get_or vs j 0 = λ j h. e j (omega arith) in
      λ k. put_field (laid_same bytes i f k) (bit-same i f k) (width_of (state-same i f k)) (e i (omega arith) k)

pub length-laid_to : (vs bytes : List ℕ) (i : ℕ) → length (laid_to vs bytes i) ≡ length bytes
unfolding laid_to
length-laid_to vs bytes zero = refl
length-laid_to vs bytes (suc i) = length-put_field (laid_to vs bytes i) _ _ _ ∙ length-laid_to vs bytes i

-- ---- an entry

-- its four fields may have its key's count and client, its badge and its number
module _ (c : ℕ) where
  count_right : (ltb c (2 ^ count_bits) && within (limit_row count_bits 0 255) c) ≡ leb c 255
  unfolding within
  count_right =
      by-test (leb c 255)
      (λ t. rw (t, lt-ltb c 256 (omega (arith, leb-true c 255 t)), le-leb 0 c (omega arith)))
      (λ t. rw (t, le-ltb c 256 (omega (arith, leb-false c 255 t))))

  owner_right : (o : ℕ) → (ltb o (2 ^ owner_bits) && within (owner_field c) o) ≡ (leb o 15 && cond (eqb c 0) (eqb o 0) true)
  unfolding within
  owner_right o =
      by-test (leb o 15)
      (λ t.
      rw (t, lt-ltb o 16 (omega (arith, leb-true o 15 t)), le-leb 0 o (omega arith))
      (by-test (eqb c 0)
      (λ z.
      rw z
      (by_equal o 0 (λ e. rw (eq-eqb o 0 e, le-leb o 0 (omega arith))) (λ d. rw (ne_eqb o 0 d, lt-leb o 0 (omega arith)))))
      (λ z. rw (z, t))))
      (λ t. rw (t, le-ltb o 16 (omega (arith, leb-false o 15 t))))

plain_right : {sort : ℕ} → Plain sort → (x : ℕ)
    → (ltb x (2 ^ bits_of sort) && within (limits_of sort) x) ≡ number_right (bits_of sort) (limits_of sort).least x
unfolding within number_right
plain_right {sort} p x =
    let most = (limits_of sort).most in
    by-test (ltb x (2 ^ bits_of sort))
    (λ t.
    let h : x < most + 1 = rw p.widest (ltb-true x (2 ^ bits_of sort) t) in
    rw (t, le-leb x most (omega arith)))
    (λ t. rw t (by-test (leb (limits_of sort).least x) (λ s. rw s) (λ s. rw s)))

-- with no least it is enough that it fits
any_right : (width x : ℕ) → number_right width 0 x ≡ ltb x (2 ^ width)
unfolding number_right
any_right width x = rw (le-leb 0 x (omega arith))

module _ {kind : ℕ} (k : Keyed kind) (st : State) (a : Ahead kind entry_place st) (n key d x : ℕ) where
  abbrev c : ℕ
  c = key / 256

  abbrev o : ℕ
  o = key % 256

  abbrev second : State
  second = next_of st c

  abbrev third : State
  third = next_of second o

  abbrev fourth : State
  fourth = next_of third d

  abbrev fifth : State
  fifth = next_of fourth x

  at-third : Ahead kind badge_place third
  at-third = ahead-next (ahead-next a c (omega arith) (omega arith)) o (omega arith) (omega arith)

  at-fourth : Ahead kind number_place fourth
  at-fourth = ahead-next at-third d (omega arith) (omega arith)

  at-fifth : Ahead kind entry_place fifth
  at-fifth = ahead-again at-fourth x

  -- a field fits a value and may have it
  abbrev fits : Field → ℕ → Bool
  fits f v = ltb v (2 ^ f.width) && within f v

  fits_count : fits (field_of st) c ≡ leb c 255
  fits_count = ap (λ (f : Field). fits f c) (count-field k a) ∙ count_right c

  fits_owner : fits (field_of second) o ≡ (leb o 15 && cond (eqb c 0) (eqb o 0) true)
  fits_owner = ap (λ (f : Field). fits f o) (owner-field k a c) ∙ owner_right c o

  fits-badge : fits (field_of third) d ≡ ltb d (2 ^ badge_bits kind)
  unfolding bits_of
  fits-badge =
      ap (λ (f : Field). fits f d) (badge-field k at-third)
      ∙ plain_right k.badges d
      ∙ ap (λ (l : ℕ). number_right (badge_bits kind) l d) k.any-badge
      ∙ any_right (badge_bits kind) d

  fits-number : fits (field_of fourth) x ≡ number_right (number_bits kind) (number_least kind) x
  unfolding bits_of
  fits-number = ap (λ (f : Field). fits f x) (number-field k at-fourth) ∙ plain_right k.numbers x

  -- what stands behind the key is right
  abbrev behind_right : Bool
  behind_right = ltb d (2 ^ badge_bits kind) && number_right (number_bits kind) (number_least kind) x

  entry-good :
      (us : List ℕ)
      → good (entries (suc (suc (suc (suc n)))) st) (c ∷ o ∷ d ∷ x ∷ us)
      ≡ ((key_right key && behind_right) && good (entries n fifth) us)
  unfolding good entries field_of key_right
  entry-good us =
      let g = good (entries n fifth) us in
      (λ i. fits_count i && (fits_owner i && (fits-badge i && (fits-number i && g))))
      ∙ and_assoc (leb c 255) _ _
      ∙ ap (λ (r : Bool). key_right key && r) (and_assoc (ltb d (2 ^ badge_bits kind)) _ g)
      ∙ and_assoc (key_right key) behind_right g

  entry-lay :
      (us bytes : List ℕ) (at : ℕ)
      → lay (entries (suc (suc (suc (suc n)))) st) (c ∷ o ∷ d ∷ x ∷ us) bytes at
      ≡ lay (entries n fifth) us (entry_laid (behind_of kind) key d x bytes at) (at + entry_bits (behind_of kind))
  unfolding lay entries field_of entry_laid
  entry-lay us bytes at =
      let bb = badge_bits kind in
      let w₀ : width_of st ≡ count_bits = ap (λ (f : Field). f.width) (count-field k a) in
      let w₁ : width_of second ≡ owner_bits = ap (λ (f : Field). f.width) (owner-field k a c) in
      let w₂ : width_of third ≡ bb = ap bits_of (ap₂ sort_at at-third.its-kind at-third.its-place) in
      let w₃ : width_of fourth ≡ number_bits kind = ap bits_of (ap₂ sort_at at-fourth.its-kind at-fourth.its-place) in
      (λ i.
      lay (entries n fifth) us
      (put_field
      (put_field (put_field (put_field bytes at (w₀ i) c) (at + w₀ i) (w₁ i) o) (at + w₀ i + w₁ i) (w₂ i) d)
      (at + w₀ i + w₁ i + w₂ i) (w₃ i) x)
      (at + w₀ i + w₁ i + w₂ i + w₃ i))
      ∙ (λ i.
      lay (entries n fifth) us
      (put_field (put_field (put_field (put_field bytes at count_bits c) (at + count_bits) owner_bits o) (key-ends at i) bb d)
      (key-ends at i + bb) (number_bits kind) x)
      (ends at i))
    where
      key-ends : (p : ℕ) → p + count_bits + owner_bits ≡ p + key_bits
      key-ends p = omega arith

      ends : (p : ℕ) → p + count_bits + owner_bits + badge_bits kind + number_bits kind ≡ p + entry_bits (behind_of kind)
      ends p = omega arith

-- ---- all entries

-- the values of a message with entries
module _ (fixed keys badges numbers : List ℕ) (total : ℕ) (all-fixed : length fixed ≡ fixed_fields) where
  abbrev vs : List ℕ
  vs = values_by fixed keys badges numbers total

  abbrev its-values : ℕ → ℕ
  its-values = entry_value (has_badges (get_or fixed 0 0)) keys badges numbers

  pub front_same : (j : ℕ) → j < fixed_fields → get_or fixed j 0 ≡ get_or vs j 0
  front_same j h = sym (get_or-append fixed _ 0 j (omega (arith, all-fixed)))

  value-behind : (j : ℕ) → j < entry_fields * total → get_or vs (fixed_fields + j) 0 ≡ its-values j
  value-behind j h =
      ap (λ (m : ℕ). get_or vs (m + j) 0) (sym all-fixed)
      ∙ get_or-append-add fixed (built its-values (entry_fields * total)) j 0
      ∙ built_at its-values (entry_fields * total) j h

  pub values_length : length vs ≡ fixed_fields + entry_fields * total
  values_length = length-append fixed _ ∙ ap₂ (λ (p q : ℕ). p + q) all-fixed (built-length its-values (entry_fields * total))

  -- from entry i on
  abbrev from : ℕ → List ℕ
  from i = drop (fixed_fields + entry_fields * i) vs

  abbrev the-kind : ℕ
  the-kind = get_or fixed 0 0

  -- its badge, as the code takes it
  badge-word : (i : ℕ) → cond (has_badges the-kind) (get_or badges i 0) 0 ≡ badge_of (badge_bits the-kind) badges i
  unfolding badge_of
  badge-word i =
      by-test (has_badges the-kind)
      (λ t. rw (t, ne_eqb (badge_bits the-kind) 0 (λ z. omega (arith, badge-some the-kind t))))
      (λ t. rw (t, eq-eqb (badge_bits the-kind) 0 (badge-none the-kind t)))

  four : (i : ℕ) → i < total
      → from i
      ≡ get_or keys i 0 / 256 ∷ get_or keys i 0 % 256 ∷ badge_of (badge_bits the-kind) badges i ∷ get_or numbers i 0 ∷ from (suc i)
  four i h =
      let k = fixed_fields + entry_fields * i in
      let badged = has_badges the-kind in
      let d₀ = drop-cons vs k 0 (omega (arith, values_length)) in
      let d₁ = drop-cons vs (suc k) 0 (omega (arith, values_length)) in
      let d₂ = drop-cons vs (suc (suc k)) 0 (omega (arith, values_length)) in
      let d₃ = drop-cons vs (suc (suc (suc k))) 0 (omega (arith, values_length)) in
      let at : (j d : ℕ) → d < entry_fields → j ≡ k + d → get_or vs j 0 ≡ its-values (entry_fields * i + d) =
      λ j d l e. ap (λ (m : ℕ). get_or vs m 0) (omega arith) ∙ value-behind (entry_fields * i + d) (omega arith) in
      let z : entry_fields * i + 0 ≡ entry_fields * i = omega arith in
      let v₀ : get_or vs k 0 ≡ get_or keys i 0 / 256 =
      at k 0 (omega arith) (omega arith) ∙ ap its-values z ∙ part_count badged keys badges numbers i in
      let v₁ : get_or vs (suc k) 0 ≡ get_or keys i 0 % 256 =
      at (suc k) 1 (omega arith) (omega arith) ∙ part-client badged keys badges numbers i in
      let v₂ : get_or vs (suc (suc k)) 0 ≡ badge_of (badge_bits the-kind) badges i =
      at (suc (suc k)) 2 (omega arith) (omega arith) ∙ part-badge badged keys badges numbers i ∙ badge-word i in
      let v₃ : get_or vs (suc (suc (suc k))) 0 ≡ get_or numbers i 0 =
      at (suc (suc (suc k))) 3 (omega arith) (omega arith) ∙ part-number badged keys badges numbers i in
      let e : suc (suc (suc (suc k))) ≡ fixed_fields + entry_fields * suc i = omega arith in
      d₀ ∙ (λ j. v₀ j ∷ d₁ j) ∙ (λ j. get_or keys i 0 / 256 ∷ v₁ j ∷ d₂ j)
      ∙ (λ j. get_or keys i 0 / 256 ∷ get_or keys i 0 % 256 ∷ v₂ j ∷ d₃ j)
      ∙ (λ j. get_or keys i 0 / 256 ∷ get_or keys i 0 % 256 ∷ badge_of (badge_bits the-kind) badges i ∷ v₃ j ∷ drop (e j) vs)

  from_end : from total ≡ []
  from_end = ap (λ (m : ℕ). drop m vs) (sym values_length) ∙ drop-length vs

  module _ (k : Keyed the-kind) where
    entries-good :
        (n i : ℕ) (st : State)
        → Ahead the-kind entry_place st
        → i + n ≡ total
        → good (entries (entry_fields * n) st) (from i) ≡ entries_right (behind_of the-kind) keys badges numbers i n
    unfolding good entries entries_right
    entries-good zero i st a e = let z : i ≡ total = omega arith in ap (good end) (ap from z ∙ from_end)
    entries-good (suc n) i st a e =
        let m : entry_fields * suc n ≡ suc (suc (suc (suc (entry_fields * n)))) = omega arith in
        let d = badge_of (badge_bits the-kind) badges i in
        ap₂ (λ (j : ℕ) (us : List ℕ). good (entries j st) us) m (four i (omega arith))
        ∙ entry-good k st a (entry_fields * n) (get_or keys i 0) d (get_or numbers i 0) (from (suc i))
        ∙ ap (λ (r : Bool). (key_right (get_or keys i 0) && behind_right k st a (entry_fields * n) (get_or keys i 0) d (get_or numbers i 0)) && r)
        (entries-good n (suc i) _ (at-fifth k st a (entry_fields * n) (get_or keys i 0) d (get_or numbers i 0)) (omega arith))

    entries-lay :
        (n i : ℕ) (st : State)
        → Ahead the-kind entry_place st
        → i + n ≡ total
        → (bytes : List ℕ) (at : ℕ)
        → lay (entries (entry_fields * n) st) (from i) bytes at ≡ entries_laid (behind_of the-kind) keys badges numbers i n bytes at
    unfolding lay entries entries_laid
    entries-lay zero i st a e bytes at = refl
    entries-lay (suc n) i st a e bytes at =
        let m : entry_fields * suc n ≡ suc (suc (suc (suc (entry_fields * n)))) = omega arith in
        let d = badge_of (badge_bits the-kind) badges i in
        ap₂ (λ (j : ℕ) (us : List ℕ). lay (entries j st) us bytes at) m (four i (omega arith))
        ∙ entry-lay k st a (entry_fields * n) (get_or keys i 0) d (get_or numbers i 0) (from (suc i)) bytes at
        ∙ entries-lay n (suc i) _ (at-fifth k st a (entry_fields * n) (get_or keys i 0) d (get_or numbers i 0)) (omega arith) _ _

-- ---- the whole frame

good_length : (m : ℕ) (st : State) (us : List ℕ) → good (entries m st) us ≡ true → length us ≡ m
unfolding good entries
good_length zero st [] e = refl
good_length zero st (u ∷ us) e = absurd (true≢false (sym e))
good_length (suc m) st [] e = absurd (true≢false (sym e))
good_length (suc m) st (u ∷ us) e =
    ap suc (good_length m (next_of st u) us (both_right (ltb u (2 ^ width_of st) && allowed st u) _ e))

module _ (fixed keys badges numbers : List ℕ) (total : ℕ) (all-fixed : length fixed ≡ fixed_fields) where
  abbrev values : List ℕ
  values = values_by fixed keys badges numbers total

  abbrev its-kind : ℕ
  its-kind = get_or fixed 0 0

  abbrev last : State
  last = state_at values entry_place

  long : entry_place ≤ length values
  long = omega (arith, values_length fixed keys badges numbers total all-fixed)

  kind-same : get_or values 0 0 ≡ its-kind
  kind-same = sym (front_same fixed keys badges numbers total all-fixed 0 (omega arith))

  said_same : entries_said values ≡ entries_in its-kind (get_or fixed many_place 0)
  said_same = ap₂ entries_in kind-same (sym (front_same fixed keys badges numbers total all-fixed many_place (omega arith)))

  at_last : Ahead its-kind entry_place last
  at_last =
      record {
        its-kind = walk-kind values entry_place (omega arith) ∙ kind-same;
        its-place = walk-place values entry_place ∙ place_late entry_place (omega arith);
      }

  left-last : last.left ≡ entry_fields * entries_in its-kind (get_or fixed many_place 0)
  left-last = omega (arith, walk-left values entry_place (omega arith), said_same)

  fixed_same : all_below (right_at values) entry_place ≡ all_below (right_at fixed) entry_place
  fixed_same =
      all_same (right_at values) (right_at fixed) entry_place
      (λ i h. right-same values fixed i (λ j l. sym (front_same fixed keys badges numbers total all-fixed j (omega arith))))

  good-behind :
      good format values
      ≡ (all_below (right_at fixed) entry_place
      && good (entries (entry_fields * entries_in its-kind (get_or fixed many_place 0)) last) (drop entry_place values))
  good-behind =
      good_from values long entry_place (omega arith)
      ∙ ap₂ (λ (a b : Bool). a && b) fixed_same
      (ap (λ (g : Grammar). good g (drop entry_place values))
      (rest_late last (omega (arith, at_last.its-place)) ∙ ap (λ (m : ℕ). entries m last) left-last))

  -- the fixed values are wrong
  pub fixed_wrong : all_below (right_at fixed) entry_place ≡ false → false ≡ good format values
  fixed_wrong e = sym (good-behind ∙ rw e)

  module _ (e : all_below (right_at fixed) entry_place ≡ true) where
    good-last :
        good format values ≡ good (entries (entry_fields * entries_in its-kind (get_or fixed many_place 0)) last) (drop entry_place values)
    good-last = good-behind ∙ rw e

    -- the fixed values say another number of entries
    pub many_wrong : (total ≡ entries_in its-kind (get_or fixed many_place 0) → ⊥) → false ≡ good format values
    many_wrong d =
        by-test (good format values)
        (λ t.
        let l = good_length _ last (drop entry_place values) (sym good-last ∙ t) in
        absurd (d (omega (arith, l, length-drop entry_place values, values_length fixed keys badges numbers total all-fixed))))
        (λ t. sym t)

    module _ (en : total ≡ entries_in its-kind (get_or fixed many_place 0)) where
      -- so that the kind is one with entries, where there are any
      pub fixed-said : Said its-kind (get_or fixed many_place 0) last.left
      fixed-said =
          let st = state_at fixed many_place in
          let p : st.place ≡ many_place = walk-place fixed many_place ∙ place_early many_place (omega arith) in
          let q : st.kind ≡ its-kind = walk-kind fixed many_place (omega arith) in
          let v = get_or fixed many_place 0 in
          let a = both_right (ltb v (2 ^ width_of st)) (allowed st v) (all_at (right_at fixed) entry_place e many_place (omega arith)) in
          let m : most_of (sort_of st) st.client st.before ≡ most_of (sort_at its-kind many_place) st.client st.before =
          ap₂ (λ (k place : ℕ). most_of (sort_at k place) st.client st.before) q p in
          record { client = st.client; before = st.before; right = omega (arith, at_most st v a, m); many = left-last }

      pub its_keyed : 0 < total → Keyed its-kind
      its_keyed h = said_keyed fixed-said (omega (arith, en))

      pub entries_decide : entries_right (behind_of its-kind) keys badges numbers 0 total ≡ good format values
      unfolding good entries entries_right
      entries_decide =
          sym
          (good-last
          ∙ ap (λ (n : ℕ). good (entries (entry_fields * n) last) (drop entry_place values)) (sym en)
          ∙ by_equal total 0
          (λ z.
          let l : entry_place ≡ length values = omega (arith, values_length fixed keys badges numbers total all-fixed) in
          ap₂ (λ (n : ℕ) (us : List ℕ). good (entries (entry_fields * n) last) us) z (ap (λ (n : ℕ). drop n values) l ∙ drop-length values)
          ∙ sym (ap (entries_right (behind_of its-kind) keys badges numbers 0) z))
          (λ d.
          let k = its_keyed (omega arith) in
          entries-good fixed keys badges numbers total all-fixed k total 0 last at_last (omega arith)))

      pub entries_follow :
          (bytes : List ℕ)
          → lay format values bytes 0
          ≡ entries_laid (behind_of its-kind) keys badges numbers 0 total (laid_to fixed bytes entry_place) (first_bit fixed entry_place)
      unfolding lay entries entries_laid
      entries_follow bytes =
          lay_from values long bytes entry_place (omega arith)
          ∙ (λ j. lay (g j) (drop entry_place values) (laid_same values fixed bytes entry_place same j)
          (bit-same values fixed entry_place same j))
          ∙ by_equal total 0
          (λ z.
          ap (λ (n : ℕ). lay (entries (entry_fields * n) last) (drop entry_place values) (laid_to fixed bytes entry_place)
          (first_bit fixed entry_place)) z
          ∙ sym (ap (λ (n : ℕ). entries_laid (behind_of its-kind) keys badges numbers 0 n (laid_to fixed bytes entry_place)
          (first_bit fixed entry_place)) z))
          (λ d.
          let k = its_keyed (omega arith) in
          entries-lay fixed keys badges numbers total all-fixed k total 0 last at_last (omega arith) (laid_to fixed bytes entry_place)
          (first_bit fixed entry_place))
        where
          g : rest last ≡ entries (entry_fields * total) last
          g = rest_late last (omega (arith, at_last.its-place))
              ∙ ap (λ (m : ℕ). entries m last) (left-last ∙ ap (λ (n : ℕ). entry_fields * n) (sym en))

          same : (j : ℕ) → j < entry_place → get_or values j 0 ≡ get_or fixed j 0
          same j h = sym (front_same fixed keys badges numbers total all-fixed j h)

-- ---- what the functions ask

-- the row of the kind, and room for the fixed fields
pub record FixedIn (row fixed : List ℕ) (bytes : ℕ) : Type 0 where
  pub its-row : row ≡ row_of (get_or fixed 0 0)
  pub near : first_bit fixed entry_place ≤ most_bits
  pub room : first_bit fixed entry_place ≤ 8 * bytes

-- so many entries in the slices; places for badges only where a badge has bits
pub record Beside (b : Behind) (n keys badges numbers : ℕ) : Type 0 where
  pub slim : Slim b
  pub for-keys : n ≤ keys
  pub for_badges : (b.badge ≡ 0 → ⊥) → n ≤ badges
  pub for-numbers : n ≤ numbers

-- and, from a bit on, room for them
pub record EntriesIn (first : ℕ) (b : Behind) (n keys badges numbers bytes : ℕ) : Type 0 where
  pub beside : Beside b n keys badges numbers
  pub near : first + n * entry_bits b ≤ most_bits
  pub room : first + n * entry_bits b ≤ 8 * bytes

-- ---- the cases, as the code meets them

-- a field that the kind lacks has the value 0
pub nothing_right : (st : State) (v : ℕ) → sort_of st ≡ none → eqb v 0 ≡ (ltb v (2 ^ width_of st) && allowed st v)
unfolding within bits_of least_of most_of
nothing_right st v e =
    rw (sym (field_is st {s = none} {w = 0} {lo = 0} {hi = 0} (sym e) refl refl refl), e)
    (by_equal v 0
    (λ z. rw (eq-eqb v 0 z, lt-ltb v 1 (omega arith), le-leb 0 v (omega arith), le-leb v 0 (omega arith)))
    (λ d. rw (ne_eqb v 0 d, le-ltb v 1 (omega arith))))

-- How far the test of the fixed values has come: all so far are right.
pub record Tried (fixed : List ℕ) (st : State) : Type 0 where
  pub is : st ≡ state_at fixed st.place
  pub early : st.place ≤ entry_place
  pub goes : Goes st
  pub rowed : Rowed (get_or fixed 0 0) st.place st
  pub right : all_below (right_at fixed) st.place ≡ true

pub tried-start : (fixed : List ℕ) → Tried fixed start
unfolding state_at all_below
tried-start fixed = record { is = refl; early = omega arith; goes = goes-start; rowed = rowed-start (get_or fixed 0 0); right = refl }

module _ {fixed : List ℕ} {st : State} (t : Tried fixed st) (h : st.place < entry_place) where
  pub tried-some : 0 < st.left
  tried-some = omega (arith, t.goes.counted h)

  module _ {r : Bool} (e : r ≡ (ltb (get_or fixed st.place 0) (2 ^ width_of st) && allowed st (get_or fixed st.place 0))) where
    pub tried_at : r ≡ right_at fixed st.place
    tried_at =
        e ∙ ap (λ (s : State). ltb (get_or fixed st.place 0) (2 ^ width_of s) && allowed s (get_or fixed st.place 0)) t.is

    pub tried_on : {next : State} → next ≡ next_of st (get_or fixed st.place 0) → not r ≡ false
        → Tried fixed next × (next.place ≡ st.place + 1)
    unfolding state_at
    tried_on {next} en d =
        let p = st.place in
        let v = get_or fixed p 0 in
        let here : next.place ≡ p + 1 =
        ap (λ (s : State). s.place) en ∙ next_place st v ∙ place_inner p (λ q. omega arith) in (
          record {
            is = en ∙ ap (λ (s : State). next_of s v) t.is ∙ ap (state_at fixed) (sym (here ∙ add-one p));
            early = omega (arith, here);
            goes = rw en (goes-next st v t.goes tried-some);
            rowed = subst (λ (m : ℕ). Rowed (get_or fixed 0 0) m next) (sym here) (rowed_on fixed p st t.rowed en);
            right = subst (λ (m : ℕ). all_below (right_at fixed) m ≡ true) (sym here) (all-next (right_at fixed) p t.right tried_at d);
          },
          here,
        )

module _ (key : ℕ) where
  pub key_wide : 255 < key / 256 → false ≡ key_right key
  unfolding key_right
  key_wide h = rw (lt-leb (key / 256) 255 h)

  module _ (h : key / 256 ≤ 255) where
    pub key_foreign : 15 < key % 256 → false ≡ key_right key
    unfolding key_right
    key_foreign l = rw (le-leb (key / 256) 255 h, lt-leb (key % 256) 15 l)

    module _ (l : key % 256 ≤ 15) where
      pub key-some : (key / 256 ≡ 0 → ⊥) → true ≡ key_right key
      unfolding key_right
      key-some d = rw (le-leb (key / 256) 255 h, le-leb (key % 256) 15 l, ne_eqb (key / 256) 0 d)

      pub key-zero : key / 256 ≡ 0 → eqb (key % 256) 0 ≡ key_right key
      unfolding key_right
      key-zero z = rw (le-leb (key / 256) 255 h, le-leb (key % 256) 15 l, eq-eqb (key / 256) 0 z)

module _ (width least x : ℕ) where
  pub number-below : x < least → false ≡ number_right width least x
  unfolding number_right
  number-below h = rw (lt-leb least x h)

  pub number_fits : {r : Bool} → least ≤ x → r ≡ ltb x (2 ^ width) → r ≡ number_right width least x
  unfolding number_right
  number_fits h e = rw (le-leb least x h) e

-- the badge of an entry: none is right, and is put nowhere
module _ (width : ℕ) (badges : List ℕ) (i : ℕ) where
  pub badge_lacking : width ≡ 0 → true ≡ ltb (badge_of width badges i) (2 ^ width)
  unfolding badge_of
  badge_lacking z = rw (z, eq-eqb 0 0 refl)

  pub badge_nowhere : (bytes : List ℕ) (at : ℕ) → width ≡ 0 → bytes ≡ put_field bytes at width (badge_of width badges i)
  unfolding put_field
  badge_nowhere bytes at z = rw z

  -- one that there is has a badge's bits
  module _ (d : width ≡ 0 → ⊥) (w : width ≡ badge_width) where
    badge_there : get_or badges i 0 ≡ badge_of width badges i
    unfolding badge_of
    badge_there = rw (ne_eqb width 0 d)

    pub badge-fits : {r : Bool} → r ≡ ltb (get_or badges i 0) (2 ^ badge_width) → r ≡ ltb (badge_of width badges i) (2 ^ width)
    badge-fits e = e ∙ ap₂ (λ (v n : ℕ). ltb v (2 ^ n)) badge_there (sym w)

    pub badge-put :
        (bytes : List ℕ) (at : ℕ) {after : List ℕ}
        → after ≡ put_by_bytes bytes at badge_width (get_or badges i 0)
        → after ≡ put_field bytes at width (badge_of width badges i)
    badge-put bytes at e =
        e ∙ put_by_bytes_lem bytes at badge_width (get_or badges i 0)
        ∙ ap₂ (λ (n v : ℕ). put_field bytes at n v) (sym w) badge_there

-- a turn of the test of the entries, n of which are left
module _ (b : Behind) (keys badges numbers : List ℕ) (i n : ℕ) (some : 0 < n) where
  abbrev its-badge : Bool
  its-badge = ltb (badge_of b.badge badges i) (2 ^ b.badge)

  abbrev its-number : Bool
  its-number = number_right b.width b.least (get_or numbers i 0)

  right-more :
      entries_right b keys badges numbers i n
      ≡ ((key_right (get_or keys i 0) && (its-badge && its-number)) && entries_right b keys badges numbers (i + 1) (n - 1))
  unfolding entries_right
  right-more = go n some
    where
      go :
          (m : ℕ)
          → 0 < m
          → entries_right b keys badges numbers i m
          ≡ ((key_right (get_or keys i 0) && (its-badge && its-number)) && entries_right b keys badges numbers (i + 1) (m - 1))
      go zero h = let z : ⊥ = omega arith in absurd z
      go (suc m) h =
          let q : m ≡ suc m - 1 = omega arith in
          ap₂ (λ (j k : ℕ). (key_right (get_or keys i 0) && (its-badge && its-number)) && entries_right b keys badges numbers j k)
          (sym (add-one i)) q

  module _ {r : Bool} (e : r ≡ key_right (get_or keys i 0)) where
    pub right_key : not r ≡ true → false ≡ entries_right b keys badges numbers i n
    right_key d = sym (right-more ∙ rw (fails e d))

    module _ (d : not r ≡ false) {t : Bool} (p : t ≡ its-badge) where
      pub right-badge : not t ≡ true → false ≡ entries_right b keys badges numbers i n
      right-badge f = sym (right-more ∙ rw (holds e d, fails p f))

      module _ (f : not t ≡ false) {s : Bool} (q : s ≡ its-number) where
        pub right-number : not s ≡ true → false ≡ entries_right b keys badges numbers i n
        right-number g = sym (right-more ∙ rw (holds e d, holds p f, fails q g))

        pub right_on : not s ≡ false → entries_right b keys badges numbers (i + 1) (n - 1) ≡ entries_right b keys badges numbers i n
        right_on g = sym (right-more ∙ rw (holds e d, holds p f, holds q g))

  -- where all are right, so is the key of the next, and all behind it
  pub right-next :
      entries_right b keys badges numbers i n ≡ true
      → (key_right (get_or keys i 0) ≡ true) × (entries_right b keys badges numbers (i + 1) (n - 1) ≡ true)
  right-next e =
      let r = sym right-more ∙ e in
      let here = key_right (get_or keys i 0) && (its-badge && its-number) in
      (both_left _ _ (both_left here _ r), both_right here _ r)

pub right_end : (b : Behind) (keys badges numbers : List ℕ) (i n : ℕ) → n ≡ 0 → true ≡ entries_right b keys badges numbers i n
unfolding entries_right
right_end b keys badges numbers i n z = rw z

-- a turn of laying them
pub laid-entry :
    (b : Behind) (keys badges numbers : List ℕ) (i n m : ℕ) (bytes : List ℕ) {after : List ℕ} (at : ℕ)
    → 0 < n
    → m ≡ n - 1
    → after ≡ entry_laid b (get_or keys i 0) (badge_of b.badge badges i) (get_or numbers i 0) bytes at
    → entries_laid b keys badges numbers (i + 1) m after (at + entry_bits b) ≡ entries_laid b keys badges numbers i n bytes at
unfolding entries_laid
laid-entry b keys badges numbers i zero m bytes at h em e = let z : ⊥ = omega arith in absurd z
laid-entry b keys badges numbers i (suc n) m bytes at h em e =
    let q : m ≡ n = omega arith in
    λ j. entries_laid b keys badges numbers (add-one i j) (q j) (e j) (at + entry_bits b)

pub laid_none : (b : Behind) (keys badges numbers : List ℕ) (i n : ℕ) {bytes : List ℕ} (at : ℕ) → n ≡ 0
    → bytes ≡ entries_laid b keys badges numbers i n bytes at
unfolding entries_laid
laid_none b keys badges numbers i n at z = rw z

-- a key's count and client, put one behind the other, are put as one field
key-put :
    (bytes : List ℕ) (at c o : ℕ)
    → Bytes bytes
    → at + key_bits ≤ 8 * length bytes
    → c < 256
    → o < 16
    → put_field bytes at key_bits (c * 16 + o) ≡ put_field (put_field bytes at count_bits c) (at + count_bits) owner_bits o
key-put bytes at c o hb h hc ho =
    let v = c * 16 + o in
    let front = put_field bytes at count_bits c in
    let one = put_field bytes at key_bits v in
    let two = put_field front (at + count_bits) owner_bits o in
    let l₀ : length front ≡ length bytes = length-put_field bytes at count_bits c in
    let l₁ : length one ≡ length bytes = length-put_field bytes at key_bits v in
    let l₂ : length two ≡ length front = length-put_field front (at + count_bits) owner_bits o in
    let count_held : field_at two at count_bits ≡ c =
    field-same two front at count_bits (λ j p q. put_other front (at + count_bits) owner_bits o j (omega arith) (λ x y. omega arith))
    ∙ put-found bytes at count_bits c (omega arith) hc in
    let owner-held : field_at two (at + count_bits) owner_bits ≡ o = put-found front (at + count_bits) owner_bits o (omega arith) ho in
    let held : field_at one at key_bits ≡ field_at two at key_bits =
    put-found bytes at key_bits v h (omega arith) ∙ sym (field_join two at count_bits owner_bits ∙ omega (arith, count_held, owner-held)) in
    let outside : (j : ℕ) → (at ≤ j → j < at + key_bits → ⊥) → bit_at one j ≡ bit_at two j =
    λ j out.
    put_other bytes at key_bits v j h out
    ∙ sym
    (put_other front (at + count_bits) owner_bits o j (omega arith) (λ p q. out (omega arith) (omega arith))
    ∙ put_other bytes at count_bits c j (omega arith) (λ p q. out p (omega arith))) in
    bytes-equal one two (put_bytes bytes at key_bits v hb)
    (put_bytes front (at + count_bits) owner_bits o (put_bytes bytes at count_bits c hb))
    (omega arith)
    (λ j k.
    by-test (leb at j)
    (λ s.
    by-test (ltb j (at + key_bits))
    (λ t. field_bits one two at key_bits held j (leb-true _ _ s) (ltb-true _ _ t))
    (λ t. outside j (λ p q. omega (arith, ltb-false j (at + key_bits) t))))
    (λ s. outside j (λ p q. omega (arith, leb-false at j s))))

-- a key that an entry may have fits its two fields
key_small : (key : ℕ) → key_right key ≡ true → (key / 256 ≤ 255) × (key % 256 ≤ 15)
unfolding key_right
key_small key e =
    let r = both_right (leb (key / 256) 255) _ e in
    (leb-true _ _ (both_left _ _ e), leb-true _ _ (both_left _ _ r))

-- by whole bytes, as the code lays it
pub entry-put :
    (b : Behind) (key badge number : ℕ) (bytes : List ℕ) (at : ℕ) {keyed badged numbered : List ℕ}
    → Bytes bytes
    → at + key_bits ≤ 8 * length bytes
    → key_right key ≡ true
    → keyed ≡ put_by_bytes bytes at key_bits (key / 256 * 16 + key % 256)
    → badged ≡ put_field keyed (at + key_bits) b.badge badge
    → numbered ≡ put_by_bytes badged (at + key_bits + b.badge) b.width number
    → numbered ≡ entry_laid b key badge number bytes at
unfolding entry_laid
entry-put b key badge number bytes at {keyed} {badged} hb h e p r t =
    let k = key_small key e in
    t ∙ put_by_bytes_lem badged (at + key_bits + b.badge) b.width number
    ∙ ap (λ (u : List ℕ). put_field u (at + key_bits + b.badge) b.width number)
    (r ∙ ap (λ (u : List ℕ). put_field u (at + key_bits) b.badge badge)
    (p ∙ put_by_bytes_lem bytes at key_bits (key / 256 * 16 + key % 256)
    ∙ key-put bytes at (key / 256) (key % 256) hb h (omega (arith, k)) (omega (arith, k))))

pub length-entry_laid :
    (b : Behind) (key badge number : ℕ) (bytes : List ℕ) (at : ℕ) → length (entry_laid b key badge number bytes at) ≡ length bytes
unfolding entry_laid
length-entry_laid b key badge number bytes at =
    length-put_field _ _ _ _ ∙ length-put_field _ _ _ _ ∙ length-put_field _ _ _ _ ∙ length-put_field bytes at count_bits (key / 256)

-- a turn of laying the fixed values
pub laid_more :
    (fixed bytes : List ℕ) (i : ℕ) {w : ℕ} {now' after : List ℕ}
    → now' ≡ laid_to fixed bytes i
    → w ≡ width_of (state_at fixed i)
    → after ≡ put_field now' (first_bit fixed i) w (get_or fixed i 0)
    → after ≡ laid_to fixed bytes (i + 1)
unfolding laid_to
laid_more fixed bytes i en ew e =
    e ∙ (λ j. put_field (en j) (first_bit fixed i) (ew j) (get_or fixed i 0)) ∙ ap (laid_to fixed bytes) (sym (add-one i))

-- a field that the kind lacks is put nowhere
pub put-nothing : (sort : ℕ) (bytes : List ℕ) (at v : ℕ) → sort ≡ none → (0 ≡ bits_of sort) × (bytes ≡ put_field bytes at (bits_of sort) v)
unfolding put_field bits_of
put-nothing sort bytes at v e = rw e (refl, refl)

-- the bit behind a field, and that the fields behind it are not ahead of it
pub bit-more : (fixed : List ℕ) (i : ℕ) → first_bit fixed (i + 1) ≡ first_bit fixed i + width_of (state_at fixed i)
bit-more fixed i = sum_more (λ j. width_of (state_at fixed j)) i

pub bit_up : (fixed : List ℕ) (i n : ℕ) → first_bit fixed i ≤ first_bit fixed (i + n)
bit_up fixed i zero = let e : i + 0 ≡ i = omega arith in rw e (omega arith)
bit_up fixed i (suc n) =
    let e : i + suc n ≡ i + n + 1 = omega arith in
    rw e (omega (arith, bit_up fixed i n, bit-more fixed (i + n)))

-- the row of the kind tells what field i holds, and how wide it is
module _ (fixed : List ℕ) {row : List ℕ} (er : row ≡ row_of (get_or fixed 0 0)) (i : ℕ) (h : i < entry_place) where
  pub row_tells : (get_or row i 0 ≡ sort_of (state_at fixed i)) × (get_or row i 0 < sorts)
  unfolding sort_at state_at
  row_tells =
      let p : (state_at fixed i).place ≡ i = walk-place fixed i ∙ place_early i h in
      let s : get_or row i 0 ≡ sort_of (state_at fixed i) =
      ap (λ (r : List ℕ). get_or r i 0) er
      ∙ by_equal i 0
      (λ z. ap (λ (j : ℕ). get_or (row_of (get_or fixed 0 0)) j 0) z ∙ sym (ap (λ (j : ℕ). sort_of (state_at fixed j)) z))
      (λ d. sym (ap₂ sort_at (walk-kind fixed i (omega arith)) p)) in
      (s, omega (arith, s, sort_small (state_at fixed i).kind (state_at fixed i).place))

-- ---- room for a good message's frame

module _ (fixed keys badges numbers : List ℕ) (total : ℕ) (all-fixed : length fixed ≡ fixed_fields)
    (g : good format (values_by fixed keys badges numbers total) ≡ true) where
  abbrev all : List ℕ
  all = values_by fixed keys badges numbers total

  -- its fixed values are right, and say how many entries it has
  pub fixed-good : all_below (right_at fixed) entry_place ≡ true
  fixed-good =
      by-test (all_below (right_at fixed) entry_place)
      (λ t. t)
      (λ t. absurd (true≢false (sym g ∙ sym (fixed_wrong fixed keys badges numbers total all-fixed t))))

  pub total-said : total ≡ entries_in (get_or fixed 0 0) (get_or fixed many_place 0)
  total-said =
      by_equal total (entries_in (get_or fixed 0 0) (get_or fixed many_place 0))
      (λ e. e)
      (λ d. absurd (true≢false (sym g ∙ sym (many_wrong fixed keys badges numbers total all-fixed fixed-good d))))

  bits-same : first_bit all entry_place ≡ first_bit fixed entry_place
  bits-same = bit-same all fixed entry_place (λ j h. sym (front_same fixed keys badges numbers total all-fixed j h))

  pub fixed_room : first_bit fixed entry_place ≤ size format all
  fixed_room = omega (arith, bits-same, sized all g entry_place (omega (arith, values_length fixed keys badges numbers total all-fixed)))

  pub good_keyed : 0 < total → Keyed (get_or fixed 0 0)
  good_keyed h = its_keyed fixed keys badges numbers total all-fixed fixed-good total-said h

  pub entries_room : first_bit fixed entry_place + total * entry_bits (behind_of (get_or fixed 0 0)) ≤ size format all
  unfolding bits_from bits_of
  entries_room =
      by_equal total 0
      (λ z.
      let e : total * entry_bits (behind_of (get_or fixed 0 0)) ≡ 0 * entry_bits (behind_of (get_or fixed 0 0)) =
      ap (λ (n : ℕ). n * entry_bits (behind_of (get_or fixed 0 0))) z in
      omega (arith, fixed_room, e))
      (λ d.
      let k = good_keyed (omega arith) in
      let kind = get_or fixed 0 0 in
      let w : bits_from (get_or all 0 0) entry_place entry_fields ≡ entry_bits (behind_of kind) =
      ap (λ (m : ℕ). bits_from m entry_place entry_fields) (sym (front_same fixed keys badges numbers total all-fixed 0 (omega arith)))
      ∙ omega (arith, ap bits_of k.counts, ap bits_of k.owners, count_bits_lem, owner_bits_lem) in
      let m : total * bits_from (get_or all 0 0) entry_place entry_fields ≡ total * (entry_bits (behind_of kind)) = ap (λ (n : ℕ). total * n) w in
      omega (
        arith,
        bits-same,
        m,
        entry_bits_lem all g total,
        sized all g (values_for total) (omega (arith, values_length fixed keys badges numbers total all-fixed)),
      ))
    where
      count_bits_lem : bits_of count ≡ count_bits
      count_bits_lem = refl

      owner_bits_lem : bits_of of ≡ owner_bits
      owner_bits_lem = refl

-- the entries are in the slices, by what stands behind their key
pub beside :
    {kind n keys badges numbers : ℕ} {b : Behind}
    → b ≡ behind_of kind
    → Slim b
    → Places kind n keys badges numbers
    → Beside b n keys badges numbers
beside {kind} {n} {keys} {badges} eb slim p =
    record {
      slim = slim;
      for-keys = p.for-keys;
      for_badges =
          λ d.
          by-test (has_badges kind)
          (λ t. p.for_badges t)
          (λ t. absurd (d (ap (λ (u : Behind). u.badge) eb ∙ badge-none kind t)));
      for-numbers = p.for-numbers;
    }

-- what laying asks, of values that are a frame's
module _ {row fixed keys badges numbers : List ℕ} {n bytes : ℕ} (all-fixed : length fixed ≡ fixed_fields)
    (p : Layable row fixed keys badges numbers n bytes) where
  pub fixed_in : FixedIn row fixed bytes
  fixed_in =
      let r = fixed_room fixed keys badges numbers n all-fixed p.right in
      record { its-row = p.its-row; near = omega (arith, r, size_small _ p.right); room = omega (arith, r, p.fits) }

  pub entries_in_lem : {b : Behind} → b ≡ behind_of (get_or fixed 0 0) → Slim b
      → EntriesIn (first_bit fixed entry_place) b n (length keys) (length badges) (length numbers) bytes
  entries_in_lem {b} eb slim =
      let kind = get_or fixed 0 0 in
      let r = entries_room fixed keys badges numbers n all-fixed p.right in
      let m : n * entry_bits b ≡ n * entry_bits (behind_of kind) = ap (λ (u : Behind). n * entry_bits u) eb in
      record {
        beside = beside eb slim p.packable.places;
        near = omega (arith, m, r, size_small _ p.right);
        room = omega (arith, m, r, p.fits);
      }
