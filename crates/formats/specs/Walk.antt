-- The states that a row of values goes through, and what is so known of a frame's values: how many they are, that each stands in its field, how many bits they have.
use Rattle.std.specs.Prelude.{◌≡◌, List, true, cond, ◌&&◌, ltb, drop}
use Rattle.std.proofs.Math.Path.{refl, sym, ap, ap₂}
use Rattle.std.proofs.Common.{◌∙◌, suc-mul, true≢false, drop-cons}
use Prim.Native.Nat.{ℕ, zero, suc, ◌+◌, ◌-◌, ◌*◌, ◌/◌, ◌%◌, ◌^◌, ◌≤◌, ◌<◌}
use native.Mathlib.Omega.{arith}
use Rattle.std.proofs.Math.Numerals.{add-one}
use Rattle.std.proofs.Math.ListN.{length, get_or}
use borrow.Author.Tests.{lt-ltb, le-ltb, ltb-true, ltb-false, eqb-true}
use Rattle.ranges.specs.Tests.{by_equal, by-test, both_left, both_right}
use Rattle.ranges.specs.Sum.{sum_below}
use Rattle.ranges.specs.SumLaws.{sum_more}
use Rattle.formats.specs.declared.state.State.{State}
use Rattle.formats.specs.Grammar.{Grammar, good, size, frame}
use Rattle.frame_table.specs.Columns.{length_by}
use Rattle.frame_table.specs.Table.{many_place, entry_place, owner_place, badge_place, number_place, entry_fields, kinds, header_bits}
use Rattle.frame_table.specs.Table.{most_entries}
use Rattle.frame_table.specs.Table.{sort_at, bits_of, most_of, shape_of, entries_in, entries_said, values_for}
use Rattle.frame_table.specs.TableLaws.{bits_from, entries-most}
use Rattle.frame_table.proofs.TableLaws.{row-right, few-entries}
use Rattle.formats.specs.Format.{sort_of, width_of, allowed, next_of, start, format}
use Rattle.formats.specs.FormatLaws.{rest, rest-start, rest-one, rest_end, next_place, next-left}
use Rattle.formats.specs.FormatLaws.{next-kind, place-last, place_inner, left-entries, left-one-less, at_most}
use Rattle.formats.specs.Tested.{Tested, tested-start, tested-end, tested_short, tested_bad, tested_on}
use Rattle.formats.specs.RoundTrip.{length-frame}

-- the state ahead of value i
unfoldable pub state_at : List ℕ → ℕ → State
state_at vs zero = start
state_at vs (suc i) = next_of (state_at vs i) (get_or vs i 0)

-- the place of value i in the table
unfoldable pub place_at : ℕ → ℕ
place_at i = cond (ltb i entry_place) i (entry_place + (i - entry_place) % entry_fields)

pub place_early : (i : ℕ) → i < entry_place → place_at i ≡ i
unfolding place_at
place_early i h = rw (lt-ltb i entry_place h)

pub place_late : (i : ℕ) → entry_place ≤ i → place_at i ≡ entry_place + (i - entry_place) % entry_fields
unfolding place_at
place_late i h = rw (le-ltb i entry_place h)

module _ (vs : List ℕ) where
  pub walk-place : (i : ℕ) → (state_at vs i).place ≡ place_at i
  unfolding state_at
  walk-place zero = sym (place_early 0 (omega arith))
  walk-place (suc i) =
      let p : (state_at vs i).place ≡ place_at i = walk-place i in
      by-test (ltb i entry_place)
      (λ b.
      let h = ltb-true _ _ b in
      let q : place_at i ≡ i = place_early i h in
      next_place _ _ ∙ place_inner _ (λ e. omega arith)
      ∙ by_equal i many_place (λ e. omega (arith, place_late (suc i) (omega arith))) (λ d. omega (arith, place_early (suc i) (omega arith))))
      (λ b.
      let h = ltb-false _ _ b in
      let q : place_at i ≡ entry_place + (i - entry_place) % entry_fields = place_late i h in
      let r : place_at (suc i) ≡ entry_place + (suc i - entry_place) % entry_fields = place_late (suc i) (omega arith) in
      by_equal (place_at i) number_place
      (λ e. next_place _ _ ∙ place-last _ (p ∙ e) ∙ omega arith)
      (λ d. next_place _ _ ∙ place_inner _ (λ e. d (sym p ∙ e)) ∙ omega arith))

  place-some : (i : ℕ) → 0 < i → place_at i ≡ 0 → ⊥
  place-some i h e =
      by-test (ltb i entry_place)
      (λ b. omega (arith, place_early i (ltb-true _ _ b)))
      (λ b. omega (arith, place_late i (ltb-false _ _ b)))

  pub walk-kind : (i : ℕ) → 0 < i → (state_at vs i).kind ≡ get_or vs 0 0
  unfolding state_at next_of
  walk-kind zero h = let z : ⊥ = omega arith in absurd z
  walk-kind (suc zero) h = refl
  walk-kind (suc (suc i)) h =
      next-kind (state_at vs (suc i)) _ (λ e. place-some (suc i) (omega arith) (sym (walk-place (suc i)) ∙ e)) ∙ walk-kind (suc i) (omega arith)

  pub left-first : (i : ℕ) → i < entry_place → (state_at vs i).left ≡ entry_place - i
  unfolding state_at
  left-first zero h = refl
  left-first (suc i) h =
      next-left _ _ ∙ sym (left-one-less _ _ (λ e. omega (arith, walk-place i ∙ place_early i (omega arith)))) ∙ omega (arith, left-first i (omega arith))

  pub walk-left : (i : ℕ) → entry_place ≤ i → (state_at vs i).left ≡ entry_fields * entries_said vs - (i - entry_place)
  unfolding state_at
  walk-left zero h = let z : ⊥ = omega arith in absurd z
  walk-left (suc i) h =
      let st = state_at vs i in
      let v = get_or vs i 0 in
      by_equal i many_place
      (λ e.
      let n : entries_in st.kind v ≡ entries_said vs = ap₂ entries_in (walk-kind i (omega arith)) (ap (λ (k : ℕ). get_or vs k 0) e) in
      next-left st v ∙ sym (left-entries st v (walk-place i ∙ place_early i (omega arith) ∙ e) refl) ∙ omega arith)
      (λ d.
      next-left st v ∙ sym (left-one-less st v (λ e. omega (arith, walk-place i, place_late i (omega arith)))) ∙ omega (arith, walk-left i (omega arith)))

-- the bit where value i begins
abbrev pub first_bit : List ℕ → ℕ → ℕ
first_bit vs i = sum_below (λ j. width_of (state_at vs j)) i

-- What holds of a frame's values.
module _ (vs : List ℕ) (g : good format vs ≡ true) where
  module _ (i : ℕ) (st : State) (c : Tested vs i st) (h : i < length vs) where
    -- a field is left for each value
    pub some_left : 0 < st.left
    some_left =
        by_equal st.left 0
        (λ z. let e : i ≡ length vs = eqb-true _ _ (tested-end vs i st c z ∙ g) in omega arith)
        (λ d. omega arith)

    -- and may have it
    is_right : (ltb (get_or vs i 0) (2 ^ width_of st) && allowed st (get_or vs i 0)) ≡ true
    is_right =
        by-test (ltb (get_or vs i 0) (2 ^ width_of st) && allowed st (get_or vs i 0))
        (λ e. e)
        (λ e. absurd (true≢false (sym (tested_bad vs i st c some_left h e ∙ g))))

  pub walk : (i : ℕ) → i ≤ length vs → Tested vs i (state_at vs i)
  unfolding state_at
  walk zero h = tested-start vs
  walk (suc i) h =
      let c = walk i (omega arith) in
      rw (← add-one i) (tested_on vs i (state_at vs i) c (some_left i (state_at vs i) c (omega arith)) (omega arith) (is_right i (state_at vs i) c (omega arith)))

  -- behind the last value no field is left
  none_left : (state_at vs (length vs)).left ≡ 0
  none_left =
      let c = walk (length vs) (omega arith) in
      by_equal (state_at vs (length vs)).left 0
      (λ z. z)
      (λ d. absurd (true≢false (sym (tested_short vs (length vs) (state_at vs (length vs)) c (omega arith) (omega arith) ∙ g))))

  -- nine values, and four for each entry
  pub values_length : length vs ≡ values_for (entries_said vs)
  values_length =
      let n = values_for (entries_said vs) in
      by-test (ltb (length vs) entry_place)
      (λ b. let h : length vs < entry_place = ltb-true _ _ b in let z : ⊥ = omega (arith, none_left, left-first vs (length vs) h) in absurd z)
      (λ b.
      let h : entry_place ≤ length vs = ltb-false _ _ b in
      let l : (state_at vs (length vs)).left ≡ entry_fields * entries_said vs - (length vs - entry_place) = walk-left vs (length vs) h in
      by-test (ltb n (length vs))
      (λ t.
      let k : n < length vs = ltb-true _ _ t in
      let z : ⊥ = omega (arith, some_left n (state_at vs n) (walk n (omega arith)) k, walk-left vs n (omega arith)) in
      absurd z)
      (λ t. let k : length vs ≤ n = ltb-false _ _ t in omega (arith, none_left)))

  module _ (i : ℕ) (h : i < length vs) where
    pub value-fits : get_or vs i 0 < 2 ^ width_of (state_at vs i)
    value-fits = ltb-true _ _ (both_left _ _ (is_right i (state_at vs i) (walk i (omega arith)) h))

    pub value-allowed : allowed (state_at vs i) (get_or vs i 0) ≡ true
    value-allowed = both_right (ltb (get_or vs i 0) (2 ^ width_of (state_at vs i))) _ (is_right i (state_at vs i) (walk i (omega arith)) h)

  -- ---- the size

  pub sized : (i : ℕ) → i ≤ length vs → sum_below (λ j. width_of (state_at vs j)) i + size (rest (state_at vs i)) (drop i vs) ≡ size format vs
  unfolding state_at sum_below size
  sized zero h = let e : size (rest start) vs ≡ size format vs = ap (λ (r : Grammar). size r vs) (sym rest-start) in omega arith
  sized (suc i) h =
      let st = state_at vs i in
      let c = walk i (omega arith) in
      let e : size (rest st) (drop i vs) ≡ width_of st + size (rest (next_of st (get_or vs i 0))) (drop (suc i) vs) =
      ap₂ size (rest-one st c.goes (some_left i st c (omega arith))) (drop-cons vs i 0 (omega arith)) in
      omega (arith, sized i (omega arith))

  total : sum_below (λ j. width_of (state_at vs j)) (length vs) ≡ size format vs
  unfolding size
  total =
      let n = length vs in
      let e : size (rest (state_at vs n)) (drop n vs) ≡ 0 = ap (λ (r : Grammar). size r (drop n vs)) (rest_end (state_at vs n) (walk n (omega arith)).goes none_left) in
      omega (arith, sized n (omega arith))

  pub kind-below : get_or vs 0 0 < kinds
  unfolding state_at most_of sort_at
  kind-below = omega (arith, at_most (state_at vs 0) (get_or vs 0 0) (value-allowed 0 (omega (arith, values_length))))

  -- the width of each value, by the table
  pub value_width : (i : ℕ) → 0 < i → width_of (state_at vs i) ≡ bits_of (sort_at (get_or vs 0 0) (place_at i))
  value_width i h = ap₂ (λ (k p : ℕ). bits_of (sort_at k p)) (walk-kind vs i h) (walk-place vs i)

  width_at : (i p : ℕ) → 0 < i → place_at i ≡ p → width_of (state_at vs i) ≡ bits_of (sort_at (get_or vs 0 0) p)
  width_at i p h e = value_width i h ∙ ap (λ (q : ℕ). bits_of (sort_at (get_or vs 0 0) q)) e

  fixed_bits : sum_below (λ j. width_of (state_at vs j)) entry_place ≡ header_bits + (shape_of (get_or vs 0 0)).body
  unfolding sum_below bits_from state_at sort_at
  fixed_bits =
      let r = row-right (get_or vs 0 0) kind-below in
      let w₀ : width_of start ≡ bits_of (sort_at (get_or vs 0 0) 0) = refl in
      let w : (i : ℕ) → 0 < i → i < entry_place → width_of (state_at vs i) ≡ bits_of (sort_at (get_or vs 0 0) i) = λ i h l. width_at i i h (place_early i l) in
      omega (
        arith,
        r.header,
        r.body,
        w 1 (omega arith) (omega arith),
        w 2 (omega arith) (omega arith),
        w 3 (omega arith) (omega arith),
        w 4 (omega arith) (omega arith),
        w 5 (omega arith) (omega arith),
        w 6 (omega arith) (omega arith),
        w 7 (omega arith) (omega arith),
        w many_place (omega arith) (omega arith),
      )

  pub entry_bits_lem : (m : ℕ) → first_bit vs (values_for m) ≡ first_bit vs entry_place + m * bits_from (get_or vs 0 0) entry_place entry_fields
  unfolding bits_from
  entry_bits_lem zero = omega arith
  entry_bits_lem (suc m) =
      let f : ℕ → ℕ = λ j. width_of (state_at vs j) in
      let k = values_for m in
      let kind = get_or vs 0 0 in
      let q : values_for (suc m) ≡ k + 1 + 1 + 1 + 1 = omega arith in
      let n₀ : sum_below f (k + 1) ≡ sum_below f k + f k = sum_more f k in
      let n₁ : sum_below f (k + 1 + 1) ≡ sum_below f (k + 1) + f (k + 1) = sum_more f (k + 1) in
      let n₂ : sum_below f (k + 1 + 1 + 1) ≡ sum_below f (k + 1 + 1) + f (k + 1 + 1) = sum_more f (k + 1 + 1) in
      let n₃ : sum_below f (k + 1 + 1 + 1 + 1) ≡ sum_below f (k + 1 + 1 + 1) + f (k + 1 + 1 + 1) = sum_more f (k + 1 + 1 + 1) in
      let at : (d p : ℕ) → d < entry_fields → p ≡ entry_place + d → f (k + d) ≡ bits_of (sort_at kind p) =
      λ d p h e. width_at (k + d) p (omega arith) (place_late (k + d) (omega arith) ∙ omega arith) in
      let w₀ : f k ≡ bits_of (sort_at kind entry_place) = ap f (omega arith) ∙ at 0 entry_place (omega arith) (omega arith) in
      let w₁ : f (k + 1) ≡ bits_of (sort_at kind owner_place) = at 1 owner_place (omega arith) (omega arith) in
      let w₂ : f (k + 1 + 1) ≡ bits_of (sort_at kind badge_place) = ap f (omega arith) ∙ at 2 badge_place (omega arith) (omega arith) in
      let w₃ : f (k + 1 + 1 + 1) ≡ bits_of (sort_at kind number_place) =
      ap f (omega arith) ∙ at 3 number_place (omega arith) (omega arith) in
      ap (sum_below f) q ∙ rw (suc-mul m (bits_from kind entry_place entry_fields)) (omega (arith, entry_bits_lem m))

  -- where entry m begins
  pub entry_first : (m : ℕ) → first_bit vs (values_for m) ≡ header_bits + (shape_of (get_or vs 0 0)).body + m * (shape_of (get_or vs 0 0)).entry
  entry_first m =
      let b : m * bits_from (get_or vs 0 0) entry_place entry_fields ≡ m * (shape_of (get_or vs 0 0)).entry =
      ap (λ (n : ℕ). m * n) (row-right (get_or vs 0 0) kind-below).entry in
      omega (arith, entry_bits_lem m, fixed_bits)

  -- the bits of a frame: 13 of the header, the fixed body's, and each entry's
  pub frame_bits : size format vs ≡ header_bits + (shape_of (get_or vs 0 0)).body + entries_said vs * (shape_of (get_or vs 0 0)).entry
  frame_bits = sym (ap (first_bit vs) (sym values_length) ∙ total) ∙ entry_first (entries_said vs)

  -- so that the table tells its length
  pub frame-length : length_by (shape_of (get_or vs 0 0)) (entries_said vs) ≡ length (frame format vs)
  unfolding length_by
  frame-length = sym (length-frame format vs ∙ ap (λ (n : ℕ). (n + 7) / 8) frame_bits)

  -- no more entries than there can be
  pub entries_few : entries_said vs ≤ most_entries
  entries_few =
      let st = state_at vs many_place in
      let e : most_of (sort_of st) st.client st.before ≡ most_of (sort_at (get_or vs 0 0) many_place) st.client st.before =
      ap₂ (λ (k p : ℕ). most_of (sort_at k p) st.client st.before) (walk-kind vs many_place (omega arith)) (walk-place vs many_place ∙ place_early many_place (omega arith)) in
      omega (
        arith,
        at_most st (get_or vs many_place 0) (value-allowed many_place (omega (arith, values_length))),
        few-entries (get_or vs 0 0) st.client st.before,
        entries-most (get_or vs 0 0) (get_or vs many_place 0),
      )
