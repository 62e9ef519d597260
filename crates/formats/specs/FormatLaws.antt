-- Laws of the format: the cases of what comes next, as the code meets them; and the grammar as one that gives, field by field, what comes next.
use Rattle.std.specs.Prelude.{◌≡◌, ℕ, zero, suc, ◌+◌, ◌-◌, ◌*◌, ◌≤◌, ◌<◌, true, cond, eqb, ltb, leb, List}
use Rattle.std.proofs.Math.Path.{refl, sym, ap}
use Rattle.std.proofs.Common.{◌∙◌, arith, eq-eqb, ne_eqb, lt-ltb, le-ltb, ltb-true, ltb-false, leb-true}
use Rattle.std.proofs.Math.ListN.{get_or}
use Rattle.ranges.specs.Tests.{by_equal, by-test, both_left, both_right}
use Rattle.formats.specs.declared.state.State.{State}
use Rattle.formats.specs.Grammar.{Grammar, end}
use Rattle.frame_table.specs.Table.{many_place, entry_place, number_place, entry_fields, sorts, row_of, sort_at, bits_of, least_of, most_of}
use Rattle.frame_table.specs.Table.{entries_in}
use Rattle.frame_table.proofs.TableLaws.{sort_small}
use Rattle.formats.specs.Format.{sort_of, field_of, within, allowed, left_after, place_after, next_of, one, entries, fixed, start, format}

module _ (place : ℕ) where
  pub place-last : place ≡ number_place → place_after place ≡ entry_place
  unfolding place_after
  place-last e = rw (eq-eqb place number_place e)

  pub place_inner : (place ≡ number_place → ⊥) → place_after place ≡ place + 1
  unfolding place_after
  place_inner d = rw (ne_eqb place number_place d)

module _ (st : State) where
  -- the field, by what was found for its parts
  pub field_is : {s w lo hi : ℕ} → s ≡ sort_of st → w ≡ bits_of s → lo ≡ least_of s st.client → hi ≡ most_of s st.client st.before → record { width = w; least = lo; most = hi } ≡ field_of st
  unfolding field_of
  field_is e p q r i = record {
    width = (p ∙ ap bits_of e) i;
    least = (q ∙ ap (λ (s : ℕ). least_of s st.client) e) i;
    most = (r ∙ ap (λ (s : ℕ). most_of s st.client st.before) e) i;
  }

module _ (st : State) (v : ℕ) where
  pub left-entries : {n : ℕ} → st.place ≡ many_place → n ≡ entries_in st.kind v → entry_fields * n ≡ left_after st v
  unfolding left_after
  left-entries e d = rw (eq-eqb st.place many_place e) (ap (λ (n : ℕ). entry_fields * n) d)

  pub left-one-less : (st.place ≡ many_place → ⊥) → st.left - 1 ≡ left_after st v
  unfolding left_after
  left-one-less d = rw (ne_eqb st.place many_place d)

  pub next_by :
      {k p l a : ℕ}
      → k ≡ cond (eqb st.place 0) v st.kind
      → p ≡ cond (eqb st.place 1) v st.client
      → l ≡ left_after st v
      → a ≡ place_after st.place
      → record { kind = k; client = p; before = v; left = l; place = a } ≡ next_of st v
  unfolding next_of
  next_by e f g h i = record { kind = e i; client = f i; before = v; left = g i; place = h i }

  pub next_place : (next_of st v).place ≡ place_after st.place
  unfolding next_of
  next_place = refl

  pub next-left : (next_of st v).left ≡ left_after st v
  unfolding next_of
  next-left = refl

  -- the kind's field tells the kind
  pub next-told : st.place ≡ 0 → (next_of st v).kind ≡ v
  unfolding next_of
  next-told e = rw (eq-eqb st.place 0 e)

  -- behind the kind's field the kind stays
  pub next-kind : (st.place ≡ 0 → ⊥) → (next_of st v).kind ≡ st.kind
  unfolding next_of
  next-kind d = rw (ne_eqb st.place 0 d)

-- A state that a frame can be in: the first nine fields are counted down, and the places are those of the table.
pub record Goes (st : State) : Type 0 where
  pub counted : st.place < entry_place → st.left + st.place ≡ entry_place
  pub inside : st.place ≤ number_place

pub goes-start : Goes start
goes-start = record { counted = λ h. refl; inside = omega arith }

-- behind an entry's field stands an entry's field
pub later : (st : State) (v : ℕ) → entry_place ≤ st.place → entry_place ≤ (next_of st v).place
later st v h =
    by_equal st.place number_place
    (λ e. omega (arith, next_place st v ∙ place-last st.place e))
    (λ d. omega (arith, next_place st v ∙ place_inner st.place d))

-- a value that is allowed is no more than the greatest
pub at_most : (st : State) (v : ℕ) → allowed st v ≡ true → v ≤ most_of (sort_of st) st.client st.before
unfolding within field_of
at_most st v a = leb-true _ _ (both_right (leb (least_of (sort_of st) st.client) v) _ a)

module _ (st : State) (v : ℕ) (g : Goes st) (some : 0 < st.left) where
  pub goes-next : Goes (next_of st v)
  goes-next =
      by_equal st.place number_place
      (λ e.
      let p : (next_of st v).place ≡ entry_place = next_place st v ∙ place-last st.place e in
      record { counted = λ h. let z : ⊥ = omega arith in absurd z; inside = omega arith })
      (λ d.
      let p : (next_of st v).place ≡ st.place + 1 = next_place st v ∙ place_inner st.place d in
      record {
        counted = λ h. omega (arith, next-left st v ∙ sym (left-one-less st v (λ e. omega arith)), g.counted (omega arith));
        inside = omega (arith, g.inside);
      })

-- ---- the row of the frame's kind

-- What holds of a walk that takes the row of `kind` ahead of the kind's field: at that field nothing is counted yet, and behind it the kind is that one.
pub record Rowed (kind n : ℕ) (st : State) : Type 0 where
  pub first : st.place ≡ 0 → n ≡ 0
  pub later : (st.place ≡ 0 → ⊥) → st.kind ≡ kind

pub rowed-start : (kind : ℕ) → Rowed kind 0 start
rowed-start kind = record { first = λ e. refl; later = λ d. absurd (d refl) }

module _ (kind n : ℕ) (st : State) (r : Rowed kind n st) where
  -- so that the row tells what the next field holds: every row begins with the kind
  rowed_sort : get_or (row_of kind) st.place 0 ≡ sort_of st
  unfolding sort_at
  rowed_sort =
      by_equal st.place 0
      (λ e. ap (λ (p : ℕ). get_or (row_of kind) p 0) e ∙ sym (ap (λ (p : ℕ). sort_at st.kind p) e))
      (λ d. ap (λ (k : ℕ). sort_at k st.place) (sym (r.later d)))

  pub rowed_tells : {row : List ℕ} → row ≡ row_of kind → (get_or row st.place 0 ≡ sort_of st) × (get_or row st.place 0 < sorts)
  rowed_tells {row} e =
      let s : get_or row st.place 0 ≡ sort_of st = ap (λ (l : List ℕ). get_or l st.place 0) e ∙ rowed_sort in
      (s, omega (arith, s, sort_small st.kind st.place))

  -- it stays so where the kind's field has that kind
  pub rowed-next : (m v : ℕ) → (st.place ≡ 0 → v ≡ kind) → Rowed kind m (next_of st v)
  rowed-next m v told =
      record {
        first = λ z. absurd (moved z);
        later = λ d. by_equal st.place 0 (λ e. next-told st v e ∙ told e) (λ f. next-kind st v f ∙ r.later f);
      }
    where
      moved : (next_of st v).place ≡ 0 → ⊥
      moved z =
          by_equal st.place number_place
          (λ e. omega (arith, next_place st v ∙ place-last st.place e))
          (λ d. omega (arith, next_place st v ∙ place_inner st.place d))

-- ---- the grammar

-- what is left of the format in a state
unfoldable pub rest : State → Grammar
rest st = cond (ltb st.place entry_place) (fixed st.left st) (entries st.left st)

module _ (st : State) where
  rest_early : st.place < entry_place → rest st ≡ fixed st.left st
  unfolding rest
  rest_early h = rw (lt-ltb st.place entry_place h)

  pub rest_late : entry_place ≤ st.place → rest st ≡ entries st.left st
  unfolding rest
  rest_late h = rw (le-ltb st.place entry_place h)

pub rest-start : format ≡ rest start
unfolding format rest
rest-start = refl

fixed_more : (n : ℕ) (st : State) → 0 < n → fixed n st ≡ one st (λ v. fixed (n - 1) (next_of st v))
unfolding fixed
fixed_more zero st h = let z : ⊥ = omega arith in absurd z
fixed_more (suc n) st h = ap (λ (k : ℕ). one st (λ v. fixed k (next_of st v))) (let e : n ≡ suc n - 1 = omega arith in e)

entries-more : (n : ℕ) (st : State) → 0 < n → entries n st ≡ one st (λ v. entries (n - 1) (next_of st v))
unfolding entries
entries-more zero st h = let z : ⊥ = omega arith in absurd z
entries-more (suc n) st h = ap (λ (k : ℕ). one st (λ v. entries k (next_of st v))) (let e : n ≡ suc n - 1 = omega arith in e)

-- no field is left: the end
pub rest_end : (st : State) → Goes st → st.left ≡ 0 → rest st ≡ end
unfolding entries
rest_end st g e = rest_late st (by-test (ltb st.place entry_place) (λ b. omega (arith, g.counted (ltb-true _ _ b))) (λ b. ltb-false _ _ b)) ∙ ap (λ (n : ℕ). entries n st) e

-- a field is left: that field, and then what is left in the state behind it
pub rest-one : (st : State) → Goes st → 0 < st.left → rest st ≡ one st (λ v. rest (next_of st v))
unfolding fixed
rest-one st g h =
    by-test (ltb st.place entry_place)
    (λ b. let early = ltb-true _ _ b in rest_early st early ∙ fixed_more st.left st h ∙ (λ i. one st (λ v. behind-fixed early v i)))
    (λ b. let late = ltb-false _ _ b in rest_late st late ∙ entries-more st.left st h ∙ (λ i. one st (λ v. behind-entry late v i)))
  where
    behind-entry : entry_place ≤ st.place → (v : ℕ) → entries (st.left - 1) (next_of st v) ≡ rest (next_of st v)
    behind-entry late v =
        sym (rest_late (next_of st v) (later st v late) ∙ ap (λ (n : ℕ). entries n (next_of st v)) (next-left st v ∙ sym (left-one-less st v (λ e. omega arith))))

    behind-fixed : st.place < entry_place → (v : ℕ) → fixed (st.left - 1) (next_of st v) ≡ rest (next_of st v)
    behind-fixed early v =
        let p : (next_of st v).place ≡ st.place + 1 = next_place st v ∙ place_inner st.place (λ e. omega arith) in
        by_equal st.place many_place
        (λ e. let z : st.left - 1 ≡ 0 = omega (arith, g.counted early) in ap (λ (n : ℕ). fixed n (next_of st v)) z ∙ sym (rest_late (next_of st v) (omega arith)))
        (λ d. sym (rest_early (next_of st v) (omega arith) ∙ ap (λ (n : ℕ). fixed n (next_of st v)) (next-left st v ∙ sym (left-one-less st v d))))

-- and no less than the least
pub at_least : (st : State) (v : ℕ) → allowed st v ≡ true → least_of (sort_of st) st.client ≤ v
unfolding within field_of
at_least st v a = leb-true _ _ (both_left _ _ a)
