-- What a server keeps of a key among its versions, and what one version more leaves of it.
use Prim.Native.Nat.{ℕ, suc, ◌≤◌, ◌<◌}
use mathlib.Core.Path.{◌≡◌, refl, sym, ap, ◌∙◌, ap₂}
use mathlib.Core.Bool.{false, cond}
use mathlib.Core.Option.{Option, none, some, none-ne-some, some-injective}
use mathlib.Core.List.{List}
use native.Mathlib.Omega.{arith}
use lib.ListN.{get_or}
use lib.Dec.{eqb, ltb}
use borrow.Author.Tests.{eq-eqb, ne_eqb, lt-ltb, ltb-true, ltb-false}
use Rattle.ranges.specs.Tests.{by_equal, by-test, not-both}
use Rattle.ranges.specs.FirstLaws.{First, first_found, first_is, first-same}
use Rattle.keys.specs.declared.Key.{Key}
use Rattle.keys.specs.Keys.{key_word}
use Rattle.tables.specs.Rows.{word_at, HasRow, word_same, word_other}
use Rattle.tables.specs.Layout.{server_places, version_word, put_version_word, value_width, value_row, version_badge, version_setpoint, put_value}
use Rattle.tables.specs.Layout.{HasValues}
use Rattle.tables.specs.Values.{badge-same, setpoint-same, value_other}
use Rattle.server.specs.Held.{bears, first_bearing, holds}
use Rattle.claim.specs.History.{Value}

-- What a version bears beside its key: what a server keeps of a value, and what messages carry of it.
pub record Version : Type 0 where
  pub badge : ℕ
  pub setpoint : ℕ

abbrev pub version_of : ℕ → ℕ → Version
version_of badge setpoint = record { badge = badge; setpoint = setpoint }

abbrev pub kept_of : Value → Version
kept_of value = version_of value.badge value.setpoint

-- what is kept of a WRITE's value: the tag, which it does not have yet, is no part of it
abbrev pub sent_of : ℕ → List ℕ → ℕ → Version
sent_of badge setpoints i = version_of badge (get_or setpoints i 0)

-- at a place of the table
abbrev pub version_at : List ℕ → ℕ → ℕ → Version
version_at values i place = version_of (version_badge values i place) (version_setpoint values i place)

-- "A key is looked up as the first version that bears it": what the first n versions of server i keep of it
unfoldable pub find : List ℕ → List ℕ → ℕ → Key → ℕ → Option Version
find keys values i key n = cond (ltb (first_bearing keys i key n) n) (some (version_at values i (first_bearing keys i key n))) none

module _ (keys values : List ℕ) (i : ℕ) (key : Key) where
  -- a key that is found has a first place
  pub record Found (n : ℕ) (v : Version) : Type 0 where
    pub place : ℕ
    pub first : First (bears keys i key) n place
    pub below : place < n
    pub kept : version_at values i place ≡ v

  pub is_found : (n : ℕ) (v : Version) → find keys values i key n ≡ some v → Found n v
  unfolding find
  is_found n v e =
      by-test (ltb (first_bearing keys i key n) n)
      (λ b. record {
        place = first_bearing keys i key n;
        first = first_found (bears keys i key) n;
        below = ltb-true _ _ b;
        kept = some-injective _ _ (rw b at e);
      })
      (λ b. absurd (none-ne-some v (rw b at e)))

  pub found_is : (n : ℕ) (v : Version) → Found n v → find keys values i key n ≡ some v
  unfolding find
  found_is n v f = rw (← first_is (bears keys i key) n f.first, lt-ltb f.place n f.below, f.kept)

  -- the place that the search gives is that one
  pub found-place : (n : ℕ) (v : Version) → find keys values i key n ≡ some v →
      (first_bearing keys i key n < n) × (version_at values i (first_bearing keys i key n) ≡ v)
  found-place n v e =
      let f = is_found n v e in
      rw (← first_is (bears keys i key) n f.first) (f.below, f.kept)

  -- a place that the search finds holds what is kept
  pub place_found : (n : ℕ) → first_bearing keys i key n < n →
      find keys values i key n ≡ some (version_at values i (first_bearing keys i key n))
  unfolding find
  place_found n l = rw (lt-ltb _ _ l)

  -- a key that is not found is borne by none
  pub not_found : (n : ℕ) → find keys values i key n ≡ none → (u : ℕ) → u < n → bears keys i key u ≡ false
  unfolding find
  not_found n e u l =
      by-test (ltb (first_bearing keys i key n) n)
      (λ b. absurd (none-ne-some _ (sym (rw b at e))))
      (λ b. (first_found (bears keys i key) n).before u (omega (arith, ltb-false (first_bearing keys i key n) n b)))

  pub not_held : (n : ℕ) → find keys values i key n ≡ none → holds keys i key n ≡ false
  unfolding find
  not_held n e = by-test (holds keys i key n) (λ b. absurd (none-ne-some _ (sym (rw b at e)))) (λ b. b)

  pub none_found : (n : ℕ) → ((u : ℕ) → u < n → bears keys i key u ≡ false) → find keys values i key n ≡ none
  unfolding find
  none_found n h =
      by-test (ltb (first_bearing keys i key n) n)
      (λ b. absurd (not-both ((first_found (bears keys i key) n).here (ltb-true _ _ b)) (h _ (ltb-true _ _ b))))
      (λ b. rw b)

  -- what is found among fewer is found among more
  pub found-more : (n m : ℕ) (v : Version) → n ≤ m → find keys values i key n ≡ some v → find keys values i key m ≡ some v
  found-more n m v l e =
      let f = is_found n v e in
      found_is m v (record {
        place = f.place;
        first = record { within = omega (arith, f.below); before = f.first.before; here = λ g. f.first.here f.below };
        below = omega (arith, f.below);
        kept = f.kept;
      })

-- One version more of server i, at place n.
module _ (keys values : List ℕ) (i n word : ℕ) (v : Version) (keyed : HasRow server_places keys i) (valued : HasValues values i)
    (room : n < server_places) where
  abbrev keys' : List ℕ
  keys' = put_version_word keys i n word

  abbrev values' : List ℕ
  values' = put_value values i n v.badge v.setpoint

  -- the versions before it, and those of another server, are as they were
  pub find-before : (j m : ℕ) (key : Key) → (j ≡ i → m ≤ n) → m ≤ server_places → find keys' values' j key m ≡ find keys values j key m
  unfolding find
  find-before j m key before l =
      let apart : (u : ℕ) → u < m → (j ≡ i) × (u ≡ n) → ⊥ = λ u k e. let z : ⊥ = omega (arith, before e.0, e.1) in z in
      let same : first_bearing keys' j key m ≡ first_bearing keys j key m
      = first-same (bears keys' j key) (bears keys j key) m (λ u k. ap (λ (x : ℕ). eqb x (key_word key)) (word_other server_places keys i n word j u room (omega arith) (apart u k))) in
      by-test (ltb (first_bearing keys j key m) m)
      (λ b. let k = ltb-true _ _ b in
      let place = first_bearing keys j key m in
      let stays : (f : ℕ) → f < value_width → word_at value_width values' (value_row j place) f ≡ word_at value_width values
      (value_row j place) f =
      λ f g. value_other values i n v.badge v.setpoint j place f room (omega arith) (apart _ k) g in
      rw (same, b) (ap₂ (λ (x y : ℕ). some (version_of x y)) (stays 0 (omega arith)) (stays 1 (omega arith))))
      (λ b. rw (same, b))

  pub find-more : (j : ℕ) (key : Key) (m m' : ℕ) (x : Version) → (j ≡ i → m ≤ n) → m ≤ server_places → m ≤ m' →
      find keys values j key m ≡ some x → find keys' values' j key m' ≡ some x
  find-more j key m m' x before l k e = found-more keys' values' j key m m' x k (find-before j m key before l ∙ e)

  -- a key that none bore, borne now
  pub find-new : (key : Key) → word ≡ key_word key → find keys values i key n ≡ none → find keys' values' i key (suc n) ≡ some v
  find-new key w e =
      found_is keys' values' i key (suc n) v (record {
        place = n;
        first = record {
          within = omega arith;
          before = λ u l. ap (λ (x : ℕ). eqb x (key_word key)) (word_other server_places keys i n word i u room (omega arith) (λ z. omega (arith, z.1))) ∙ not_found keys values i key n e u l;
          here = λ g. eq-eqb _ _ (word_same server_places keys i n word keyed room ∙ w);
        };
        below = omega arith;
        kept =
            ap₂ version_of (badge-same values i n v.badge v.setpoint (omega arith))
            (setpoint-same values i n v.badge v.setpoint (omega arith));
      })

  -- any other key as before
  pub find_other : (key : Key) → (word ≡ key_word key → ⊥) → find keys' values' i key (suc n) ≡ find keys values i key n
  find_other key d = go (find keys values i key n) refl
    where
      go : (o : Option Version) → find keys values i key n ≡ o → find keys' values' i key (suc n) ≡ o
      go (some x) e = find-more i key n (suc n) x (λ z. omega arith) (omega arith) (omega arith) e
      go none e =
          none_found keys' values' i key (suc n) (λ u l.
          by_equal u n
          (λ z. ne_eqb _ _ (λ y. d (sym (word_same server_places keys i n word keyed room) ∙ ap (λ (x : ℕ). version_word keys' i x) (sym z) ∙ y)))
          (λ z. ap (λ (x : ℕ). eqb x (key_word key)) (word_other server_places keys i n word i u room (omega arith) (λ y. z y.1)) ∙ not_found keys values i key n e u (omega arith)))
