-- What is known of a frame's values: they are narrow enough for a message's types, and the message's own values are those that it was made of.
use Rattle.std.specs.Prelude.{ℕ, zero, suc, ◌+◌, ◌-◌, ◌*◌, ◌/◌, ◌^◌, ◌≤◌, ◌<◌, ◌≡◌, true, false, cond, ◌||◌, List, [], ◌∷◌, eqb, leb, length, take}
use Rattle.std.proofs.Math.Path.{refl, sym, ap}
use Rattle.std.proofs.Common.{ap₂, ◌∙◌, arith, lt_of_lt_of_le, pow_mono}
use Rattle.std.proofs.Math.ListN.{get_or}
use Rattle.std.proofs.Math.Seq.{get_or-take}
use borrow.Author.Tests.{leb-true, eq-eqb, ne_eqb, not-false}
use Rattle.ranges.specs.Tests.{by_equal}
use Rattle.ranges.specs.All.{all_below}
use Rattle.ranges.specs.AllLaws.{all_at}
use Rattle.keys.specs.Keys.{key_of}
use Rattle.formats.specs.Grammar.{good}
use Rattle.frame_table.specs.Table.{none, coord, sort_at, bits_of, least_of, most_of, entries_in, entries_said}
use Rattle.frame_table.specs.Table.{has_badges, entry_place, owner_place, badge_place, number_place, many_place, kinds, fixed_fields}
use Rattle.frame_table.specs.TableLaws.{row_places}
use Rattle.frame_table.specs.Table.{entry_fields}
use Rattle.formats.specs.Format.{sort_of, width_of, format}
use Rattle.formats.specs.FormatLaws.{at_most, at_least}
use Rattle.formats.specs.Walk.{state_at, place_at, place_early, place_late, walk-place, walk-kind, values_length, entries_few, value-fits, value-allowed, value_width, kind-below}
use Rattle.frames.specs.declared.Fixed.{Fixed}
use Rattle.ranges.specs.Laid.{built}
use Rattle.ranges.specs.LaidLaws.{built-take}
use Rattle.frames.specs.Messages.{entries_of, fixed_of, fixed_at, message_at, message_of}
use Rattle.frames.specs.MessageLaws.{Narrow, message_by}
use Rattle.frames.specs.Entries.{kind_of}

-- the most bits at a place: only those of setpoints and masks and those of badges are wider than a byte
wide : ℕ → ℕ
wide place = cond (eqb place 7 || eqb place number_place) 32 (cond (eqb place 6 || eqb place badge_place) 16 8)

narrow-place : (kind place : ℕ) → kind < kinds → place < row_places → bits_of (sort_at kind place) ≤ wide place
unfolding all_below sort_at bits_of wide
narrow-place kind place h l =
    leb-true _ _
    (all_at (λ p. leb (bits_of (sort_at kind p)) (wide p)) row_places
    (all_at (λ k. all_below (λ p. leb (bits_of (sort_at k p)) (wide p)) row_places) kinds refl kind h) place l)

-- what a field holds where it can hold one value only: none 0, and the coordinator's target 16
unfoldable pub settled : ℕ → ℕ → ℕ
settled sort v = cond (eqb sort none) 0 (cond (eqb sort coord) 16 v)

module _ (vs : List ℕ) (g : good format vs ≡ true) where
  long : fixed_fields ≤ length vs
  long = omega (arith, values_length vs g)

  -- the table's place of value i, i not the first
  module _ (i : ℕ) (some : 0 < i) (h : i < length vs) where
    at_sort : sort_of (state_at vs i) ≡ sort_at (get_or vs 0 0) (place_at i)
    at_sort = ap₂ sort_at (walk-kind vs i some) (walk-place vs i)

    below_at : (p : ℕ) → place_at i ≡ p → p < row_places → get_or vs i 0 < 2 ^ wide p
    below_at p e l =
        let w : width_of (state_at vs i) ≡ bits_of (sort_at (get_or vs 0 0) p) =
        value_width vs g i some ∙ ap (λ (q : ℕ). bits_of (sort_at (get_or vs 0 0) q)) e in
        let b : width_of (state_at vs i) ≤ wide p = omega (arith, w, narrow-place (get_or vs 0 0) p (kind-below vs g) l) in
        lt_of_lt_of_le (value-fits vs g i h) (pow_mono b)

    -- a field that can hold one value only holds it
    is-settled : get_or vs i 0 ≡ settled (sort_at (get_or vs 0 0) (place_at i)) (get_or vs i 0)
    unfolding settled least_of most_of
    is-settled =
        let st = state_at vs i in
        let s = sort_at (get_or vs 0 0) (place_at i) in
        let a = value-allowed vs g i h in
        by_equal s none
        (λ e. let n : sort_of st ≡ 0 = at_sort ∙ e in rw (eq-eqb s none e) (omega (arith, rw n at (at_most st (get_or vs i 0) a))))
        (λ d.
        by_equal s coord
        (λ e.
        let n : sort_of st ≡ 4 = at_sort ∙ e in
        rw (ne_eqb s none d, eq-eqb s coord e) (omega (arith, rw n at (at_most st (get_or vs i 0) a), rw n at (at_least st (get_or vs i 0) a))))
        (λ f. rw (ne_eqb s none d, ne_eqb s coord f)))

  -- the first of the fixed values but the kind, as the reader has kept them
  kept-below : (i : ℕ) → 0 < i → i < fixed_fields → get_or (take fixed_fields vs) i 0 < 2 ^ wide i
  kept-below i some l =
      rw (get_or-take fixed_fields vs i 0 l) (below_at i some (omega (arith, long)) i (place_early i l) (omega arith))

  pub is_narrow : Narrow (take fixed_fields vs) (length vs)
  unfolding wide
  is_narrow =
      record {
        client = kept-below 1 (omega arith) (omega arith);
        server = kept-below 2 (omega arith) (omega arith);
        tag = kept-below 3 (omega arith) (omega arith);
        count = kept-below 4 (omega arith) (omega arith);
        owner = kept-below 5 (omega arith) (omega arith);
        badge = kept-below 6 (omega arith) (omega arith);
        long = long;
        few = omega (arith, values_length vs g, entries_few vs g);
      }

  pub message-kept : message_by (take fixed_fields vs) (length vs) ≡ message_of vs
  unfolding message_of
  message-kept =
      let e : (i : ℕ) → i < fixed_fields → get_or (take fixed_fields vs) i 0 ≡ get_or vs i 0 = λ i l. get_or-take fixed_fields vs i 0 l in
      let n : (length vs - fixed_fields) / entry_fields ≡ entries_said vs = omega (arith, values_length vs g) in
      λ j.
      message_at (e 0 (omega arith) j)
      (record {
        client = e 1 (omega arith) j;
        server = e 2 (omega arith) j;
        tag = e 3 (omega arith) j;
        key = key_of (e 4 (omega arith) j) (e 5 (omega arith) j);
        badge = e 6 (omega arith) j;
        number = e 7 (omega arith) j;
        entries = n j;
      })

  fixed-settled : (i : ℕ) → 0 < i → i < fixed_fields → get_or vs i 0 ≡ settled (sort_at (get_or vs 0 0) i) (get_or vs i 0)
  fixed-settled i some l =
      is-settled i some (omega (arith, long)) ∙ ap (λ (p : ℕ). settled (sort_at (get_or vs 0 0) p) (get_or vs i 0)) (place_early i l)

-- ---- kind by kind: the table and the message's clauses agree

-- the values of a kind's message, with the other values as they can be; v is the one that says how many entries there are
settled_fixed : ℕ → Fixed → ℕ → List ℕ
settled_fixed k f v =
    k
    ∷ settled (sort_at k 1) f.client
    ∷ settled (sort_at k 2) f.server
    ∷ settled (sort_at k 3) f.tag
    ∷ settled (sort_at k 4) f.key.count
    ∷ settled (sort_at k 5) f.key.client
    ∷ settled (sort_at k 6) f.badge
    ∷ settled (sort_at k 7) f.number
    ∷ settled (sort_at k many_place) v
    ∷ []

-- what is so of each kind
record Kind (k : ℕ) : Type 0 where
  back : (f : Fixed) (v : ℕ) → f.entries ≡ entries_in k v → fixed_of (message_at k f) ≡ settled_fixed k f v
  said : (f : Fixed) (v : ℕ) → f.entries ≡ entries_in k v → entries_of (message_at k f) ≡ entries_in k (settled (sort_at k many_place) v)

-- a number from 1 to 12 is one of them
by_kind : (P : ℕ → Type 0) → P 1 → P 2 → P 3 → P 4 → P 5 → P 6 → P 7 → P 8 → P 9 → P 10 → P 11 → P 12 → (k : ℕ) → 0 < k → k < 13 → P k
by_kind P a b c d e f g h i j k l zero x y = let z : ⊥ = omega arith in absurd z
by_kind P a b c d e f g h i j k l (suc zero) x y = a
by_kind P a b c d e f g h i j k l (suc (suc zero)) x y = b
by_kind P a b c d e f g h i j k l (suc (suc (suc zero))) x y = c
by_kind P a b c d e f g h i j k l (suc (suc (suc (suc zero)))) x y = d
by_kind P a b c d e f g h i j k l (suc (suc (suc (suc (suc zero))))) x y = e
by_kind P a b c d e f g h i j k l (suc (suc (suc (suc (suc (suc zero)))))) x y = f
by_kind P a b c d e f g h i j k l (suc (suc (suc (suc (suc (suc (suc zero))))))) x y = g
by_kind P a b c d e f g h i j k l (suc (suc (suc (suc (suc (suc (suc (suc zero)))))))) x y = h
by_kind P a b c d e f g h i j k l (suc (suc (suc (suc (suc (suc (suc (suc (suc zero))))))))) x y = i
by_kind P a b c d e f g h i j k l (suc (suc (suc (suc (suc (suc (suc (suc (suc (suc zero)))))))))) x y = j
by_kind P a b c d e f g h i j k l (suc (suc (suc (suc (suc (suc (suc (suc (suc (suc (suc zero))))))))))) x y = k
by_kind P a b c d e f g h i j k l (suc (suc (suc (suc (suc (suc (suc (suc (suc (suc (suc (suc zero)))))))))))) x y = l
by_kind P a b c d e f g h i j k l (suc (suc (suc (suc (suc (suc (suc (suc (suc (suc (suc (suc (suc n))))))))))))) x y = let z : ⊥ = omega arith in absurd z

each-kind : (k : ℕ) → 0 < k → k < kinds → Kind k
unfolding message_at settled_fixed settled sort_at entries_in
each-kind =
    by_kind Kind
    (record { back = λ f v e. refl; said = λ f v e. refl })
    (record { back = λ f v e. refl; said = λ f v e. refl })
    (record { back = λ f v e. refl; said = λ f v e. refl })
    (record { back = λ f v e. refl; said = λ f v e. refl })
    (record { back = λ f v e. refl; said = λ f v e. refl })
    (record { back = λ f v e. ap (λ (n : ℕ). 6 ∷ f.client ∷ 16 ∷ f.tag ∷ 0 ∷ 0 ∷ 0 ∷ 0 ∷ n ∷ []) e; said = λ f v e. e })
    (record { back = λ f v e. refl; said = λ f v e. refl })
    (record { back = λ f v e. refl; said = λ f v e. refl })
    (record { back = λ f v e. refl; said = λ f v e. refl })
    (record { back = λ f v e. ap (λ (n : ℕ). 10 ∷ f.client ∷ f.server ∷ 0 ∷ 0 ∷ 0 ∷ 0 ∷ 0 ∷ n ∷ []) (omega arith); said = λ f v e. e })
    (record { back = λ f v e. refl; said = λ f v e. refl })
    (record { back = λ f v e. ap (λ (n : ℕ). 12 ∷ f.client ∷ 16 ∷ 0 ∷ 0 ∷ 0 ∷ 0 ∷ 0 ∷ n ∷ []) (omega arith); said = λ f v e. e })

module _ (vs : List ℕ) (g : good format vs ≡ true) where
  kind-some : 0 < get_or vs 0 0
  unfolding state_at least_of sort_at
  kind-some = omega (arith, at_least (state_at vs 0) (get_or vs 0 0) (value-allowed vs g 0 (omega (arith, long vs g))))

  its-kind : Kind (get_or vs 0 0)
  its-kind = each-kind (get_or vs 0 0) kind-some (kind-below vs g)

  all-fixed : settled_fixed (get_or vs 0 0) (fixed_at vs) (get_or vs many_place 0) ≡ take fixed_fields vs
  unfolding settled_fixed built
  all-fixed =
      let e : (i : ℕ) → 0 < i → i < fixed_fields → settled (sort_at (get_or vs 0 0) i) (get_or vs i 0) ≡ get_or vs i 0 = λ i p q. sym (fixed-settled vs g i p q) in
      (λ j.
      get_or vs 0 0
      ∷ e 1 (omega arith) (omega arith) j
      ∷ e 2 (omega arith) (omega arith) j
      ∷ e 3 (omega arith) (omega arith) j
      ∷ e 4 (omega arith) (omega arith) j
      ∷ e 5 (omega arith) (omega arith) j
      ∷ e 6 (omega arith) (omega arith) j
      ∷ e 7 (omega arith) (omega arith) j
      ∷ e 8 (omega arith) (omega arith) j
      ∷ [])
      ∙ built-take vs fixed_fields (long vs g)

  -- the message of a frame's values has those values
  pub fixed_back : fixed_of (message_of vs) ≡ take fixed_fields vs
  unfolding message_of
  fixed_back = its-kind.back (fixed_at vs) (get_or vs many_place 0) refl ∙ all-fixed

  pub entries_back : entries_of (message_of vs) ≡ entries_said vs
  unfolding message_of
  entries_back = its-kind.said (fixed_at vs) (get_or vs many_place 0) refl ∙ ap (entries_in (get_or vs 0 0)) (sym (fixed-settled vs g many_place (omega arith) (omega arith)))

  pub kind_back : kind_of (message_of vs) ≡ get_or vs 0 0
  kind_back = ap (λ (l : List ℕ). get_or l 0 0) fixed_back ∙ get_or-take fixed_fields vs 0 0 (omega arith)

  -- the values of entry i
  module _ (i : ℕ) (h : i < entries_said vs) where
    entry_inside : (d : ℕ) → d < entry_fields → entry_place + d + entry_fields * i < length vs
    entry_inside d l = omega (arith, values_length vs g)

    entry_place_lem : (d : ℕ) → d < entry_fields → place_at (entry_place + d + entry_fields * i) ≡ entry_place + d
    entry_place_lem d l = place_late (entry_place + d + entry_fields * i) (omega arith) ∙ omega arith

    pub client_byte : get_or vs (owner_place + entry_fields * i) 0 < 256
    unfolding wide
    client_byte =
        below_at vs g (owner_place + entry_fields * i) (omega arith) (entry_inside 1 (omega arith)) owner_place (entry_place_lem 1 (omega arith))
        (omega arith)

    pub no-badge : has_badges (get_or vs 0 0) ≡ false → get_or vs (badge_place + entry_fields * i) 0 ≡ 0
    unfolding has_badges settled
    no-badge e =
        is-settled vs g (badge_place + entry_fields * i) (omega arith) (entry_inside 2 (omega arith))
        ∙ ap (λ (p : ℕ). settled (sort_at (get_or vs 0 0) p) (get_or vs (badge_place + entry_fields * i) 0)) (entry_place_lem 2 (omega arith))
        ∙ rw (not-false (eqb (sort_at (get_or vs 0 0) badge_place) none) e)
