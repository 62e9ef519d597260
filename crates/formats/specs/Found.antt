-- What was read stands in the bytes: each value where its field begins, so that an entry's key and number stand where the table says.
use Rattle.std.specs.Prelude.{◌≡◌, List, ◌∷◌, true, length}
use Rattle.std.proofs.Math.Path.{sym, ap, ap₂}
use Rattle.std.proofs.Common.{◌∙◌}
use Prim.Native.Nat.{ℕ, zero, suc, ◌+◌, ◌*◌, ◌/◌, ◌%◌, ◌≤◌, ◌<◌}
use native.Mathlib.Omega.{arith}
use Rattle.std.proofs.Math.ListN.{get_or, drop}
use Rattle.std.proofs.Math.Seq.{drop-cons}
use Rattle.ranges.specs.Sum.{sum_below}
use Rattle.ranges.specs.SumLaws.{sum_more}
use Rattle.fields.specs.Bits.{field_at}
use Rattle.formats.specs.Grammar.{Grammar, got, read, good}
use Rattle.formats.specs.RoundTrip.{field-got, read-good, read-size}
use Rattle.frame_table.specs.declared.Behind.{Behind}
use Rattle.frame_table.specs.Table.{many_place, entry_place, owner_place, badge_place, number_place, entry_fields, kinds}
use Rattle.frame_table.specs.Table.{header_bits, shape_of, sort_at, bits_of}
use Rattle.frame_table.specs.Table.{most_of, entries_in, entries_said, values_for}
use Rattle.frame_table.specs.TableLaws.{bits_from, columns_small, entries_fit}
use Rattle.frame_table.proofs.TableLaws.{row-right}
use Rattle.formats.specs.Format.{width_of, next_of, format}
use Rattle.formats.specs.FormatLaws.{rest, rest-start, rest-one, at_most}
use Rattle.formats.specs.Entries.{key_in, badge_in, number_in}
use Rattle.frame_table.specs.Columns.{most_bits}
use Rattle.frame_table.specs.Entry.{count_bits, owner_bits, key_bits, badge_bits, Slim, Keyed, keyed-some, behind_of, entry_bits}
use Rattle.frame_table.proofs.Entry.{is_slim}
use Rattle.formats.specs.Judging.{key-parts}
use Rattle.formats.specs.Walk.{state_at, first_bit, place_early, place_late, walk, walk-place, walk-kind, some_left, values_length}
use Rattle.formats.specs.Walk.{value_width, value-allowed, entry_first, entries_few, kind-below, frame_bits}

-- ---- definitions

-- where the entries of a kind begin
abbrev pub entries_bit : ℕ → ℕ
entries_bit kind = header_bits + (shape_of kind).body

-- where entry i begins, of entries that begin at a bit and have this behind their key
abbrev pub entry_at : ℕ → Behind → ℕ → ℕ
entry_at first b i = first + i * entry_bits b

-- its key as a number, its badge, and its number
abbrev pub key_at : List ℕ → ℕ → Behind → ℕ → ℕ
key_at bytes first b i = field_at bytes (entry_at first b i) key_bits / 16 * 256 + field_at bytes (entry_at first b i) key_bits % 16

abbrev pub badge_at : List ℕ → ℕ → Behind → ℕ → ℕ
badge_at bytes first b i = field_at bytes (entry_at first b i + key_bits) b.badge

abbrev pub number_at : List ℕ → ℕ → Behind → ℕ → ℕ
number_at bytes first b i = field_at bytes (entry_at first b i + key_bits + b.badge) b.width

-- what unpacking n of them asks
pub record Unpackable (bytes : List ℕ) (first : ℕ) (b : Behind) (n : ℕ) : Type 0 where
  pub slim : Slim b
  pub near : first + n * entry_bits b ≤ most_bits
  pub inside : first + n * entry_bits b ≤ 8 * length bytes

-- ---- laws

-- an entry's bits, of a keyed kind, are the table's
entry_bits_are : (kind : ℕ) → kind < kinds → Keyed kind → (shape_of kind).entry ≡ entry_bits (behind_of kind)
unfolding bits_from bits_of
entry_bits_are kind h k = omega (arith, (row-right kind h).entry, ap bits_of k.counts, ap bits_of k.owners)

module _ (bytes vs : List ℕ) (r : read format bytes 0 ≡ got vs) where
  right : good format vs ≡ true
  right = read-good format bytes 0 vs r

  -- value i is what its field holds, and the others are read behind it
  record Stands (i : ℕ) : Type 0 where
    value : get_or vs i 0 ≡ field_at bytes (first_bit vs i) (width_of (state_at vs i))
    others : read (rest (state_at vs (suc i))) bytes (first_bit vs (suc i)) ≡ got (drop (suc i) vs)

  stands : (i : ℕ) → i < length vs → read (rest (state_at vs i)) bytes (first_bit vs i) ≡ got (drop i vs) → Stands i
  unfolding read state_at sum_below
  stands i h e =
      let st = state_at vs i in
      let at = first_bit vs i in
      let w = width_of st in
      let v = field_at bytes at w in
      let t = walk vs right i (omega arith) in
      let o = ap (λ (g : Grammar). read g bytes at) (sym (rest-one st t.goes (some_left vs right i st t h))) ∙ e in
      let f = field-got _ _ v _ (drop i vs) o in
      let q : v ∷ f.others ≡ get_or vs i 0 ∷ drop (suc i) vs = sym f.values ∙ drop-cons vs i 0 h in
      let ev : v ≡ get_or vs i 0 = cc in
      let eo : f.others ≡ drop (suc i) vs = cc in
      record {
        value = sym ev;
        others = ap (λ (u : ℕ). read (rest (next_of st u)) bytes (at + w)) (sym ev) ∙ f.rest-got ∙ ap got eo;
      }

  read_from : (i : ℕ) → i ≤ length vs → read (rest (state_at vs i)) bytes (first_bit vs i) ≡ got (drop i vs)
  unfolding state_at sum_below
  read_from zero h = ap (λ (g : Grammar). read g bytes 0) (sym rest-start) ∙ r
  read_from (suc i) h = (stands i (omega arith) (read_from i (omega arith))).others

  value_stands : (i : ℕ) → i < length vs → get_or vs i 0 ≡ field_at bytes (first_bit vs i) (width_of (state_at vs i))
  value_stands i h = (stands i h (read_from i (omega arith))).value

  -- where entry m begins, and that it lies within the bytes
  module _ (k : Keyed (get_or vs 0 0)) (m : ℕ) (l : m < entries_said vs) where
    abbrev kind : ℕ
    kind = get_or vs 0 0

    abbrev begin : ℕ
    begin = entries_bit kind + m * entry_bits (behind_of kind)

    begins : first_bit vs (values_for m) ≡ begin
    begins = entry_first vs right m ∙ ap (λ (n : ℕ). entries_bit kind + m * n) (entry_bits_are kind (kind-below vs right) k)

    inside : (d : ℕ) → d < entry_fields → values_for m + d < length vs
    inside d h = omega (arith, values_length vs right)

    width_of_lem : (d : ℕ) → d < entry_fields → width_of (state_at vs (values_for m + d)) ≡ bits_of (sort_at kind (entry_place + d))
    width_of_lem d h =
        value_width vs right (values_for m + d) (omega arith)
        ∙ ap (λ (p : ℕ). bits_of (sort_at kind p)) (place_late (values_for m + d) (omega arith) ∙ omega arith)

    next_bit : (d : ℕ) → first_bit vs (values_for m + d + 1) ≡ first_bit vs (values_for m + d) + width_of (state_at vs (values_for m + d))
    next_bit d = sum_more (λ j. width_of (state_at vs j)) (values_for m + d)

    -- its four values
    value_at : (d p w : ℕ) → d < entry_fields → first_bit vs (values_for m + d) ≡ p → width_of (state_at vs (values_for m + d)) ≡ w
        → get_or vs (values_for m + d) 0 ≡ field_at bytes p w
    value_at d p w h e f = value_stands (values_for m + d) (inside d h) ∙ ap₂ (field_at bytes) e f

    w₀ : width_of (state_at vs (values_for m + 0)) ≡ count_bits
    unfolding bits_of
    w₀ = width_of_lem 0 (omega arith) ∙ ap bits_of k.counts

    w₁ : width_of (state_at vs (values_for m + 1)) ≡ owner_bits
    unfolding bits_of
    w₁ = width_of_lem 1 (omega arith) ∙ ap bits_of k.owners

    b₀ : first_bit vs (values_for m + 0) ≡ begin
    b₀ = ap (first_bit vs) (omega arith) ∙ begins

    b₁ : first_bit vs (values_for m + 1) ≡ begin + count_bits
    b₁ =
        let e : first_bit vs (values_for m + 1) ≡ first_bit vs (values_for m + 0 + 1) = ap (first_bit vs) (omega arith) in
        omega (arith, next_bit 0, b₀, w₀)

    b₂ : first_bit vs (values_for m + 2) ≡ begin + key_bits
    b₂ =
        let e : first_bit vs (values_for m + 2) ≡ first_bit vs (values_for m + 1 + 1) = ap (first_bit vs) (omega arith) in
        omega (arith, next_bit 1, b₁, w₁)

    b₃ : first_bit vs (values_for m + 3) ≡ begin + key_bits + badge_bits kind
    b₃ =
        let e : first_bit vs (values_for m + 3) ≡ first_bit vs (values_for m + 2 + 1) = ap (first_bit vs) (omega arith) in
        omega (arith, next_bit 2, b₂, width_of_lem 2 (omega arith))

    pub key-found : key_at bytes (entries_bit kind) (behind_of kind) m ≡ key_in vs m
    key-found =
        let e : values_for m + 0 ≡ entry_place + entry_fields * m = omega arith in
        let f : values_for m + 1 ≡ owner_place + entry_fields * m = omega arith in
        let c : get_or vs (entry_place + entry_fields * m) 0 ≡ field_at bytes begin count_bits =
        ap (λ (j : ℕ). get_or vs j 0) (sym e) ∙ value_at 0 _ _ (omega arith) b₀ w₀ in
        let o : get_or vs (owner_place + entry_fields * m) 0 ≡ field_at bytes (begin + count_bits) owner_bits =
        ap (λ (j : ℕ). get_or vs j 0) (sym f) ∙ value_at 1 _ _ (omega arith) b₁ w₁ in
        omega (arith, c, o, key-parts bytes begin)

    pub badge-found : badge_at bytes (entries_bit kind) (behind_of kind) m ≡ badge_in vs m
    badge-found =
        let e : values_for m + 2 ≡ badge_place + entry_fields * m = omega arith in
        sym (ap (λ (j : ℕ). get_or vs j 0) (sym e) ∙ value_at 2 _ _ (omega arith) b₂ (width_of_lem 2 (omega arith)))

    pub number-found : number_at bytes (entries_bit kind) (behind_of kind) m ≡ number_in vs m
    number-found =
        let e : values_for m + 3 ≡ number_place + entry_fields * m = omega arith in
        sym (ap (λ (j : ℕ). get_or vs j 0) (sym e) ∙ value_at 3 _ _ (omega arith) b₃ (width_of_lem 3 (omega arith)))

  -- a frame with entries is of a keyed kind
  pub found_keyed : 0 < entries_said vs → Keyed (get_or vs 0 0)
  unfolding entries_in most_of
  found_keyed h =
      keyed-some (get_or vs 0 0)
      (λ e.
      let v = get_or vs many_place 0 in
      let st = state_at vs many_place in
      let a : v ≤ most_of (sort_at (get_or vs 0 0) many_place) st.client st.before =
      omega (
        arith,
        at_most st v (value-allowed vs right many_place (omega (arith, values_length vs right))),
        ap₂ (λ (k p : ℕ). most_of (sort_at k p) st.client st.before) (walk-kind vs many_place (omega arith))
            (walk-place vs many_place ∙ place_early many_place (omega arith)),
      ) in
      let z : v ≤ 0 = rw e at a in
      let m : 0 < v = rw e at h in
      omega arith)

  -- and its entries lie within the bytes
  pub found_unpackable : Keyed (get_or vs 0 0) → {n : ℕ} → n ≡ entries_said vs
      → Unpackable bytes (entries_bit (get_or vs 0 0)) (behind_of (get_or vs 0 0)) n
  found_unpackable k {n} en =
      let kind = get_or vs 0 0 in
      let h = kind-below vs right in
      let s : n * entry_bits (behind_of kind) ≡ entries_said vs * (shape_of kind).entry =
      ap₂ (λ (i j : ℕ). i * j) en (sym (entry_bits_are kind h k)) in
      record {
        slim = is_slim kind;
        near = omega (arith, s, columns_small kind h, entries_fit kind (entries_said vs) h (entries_few vs right));
        inside = omega (arith, s, frame_bits vs right, read-size format bytes 0 vs r (omega arith));
      }
