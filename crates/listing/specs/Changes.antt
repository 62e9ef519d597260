-- How the order changes as records are begun, tagged and ended: what whoever follows it step by step cites.
use Prim.Native.Nat.{ℕ, zero, suc, ◌+◌, ◌≤◌, ◌<◌}
use Rattle.std.specs.Prelude.{◌≡◌, Bool, true, false, length}
use Rattle.std.proofs.Math.Path.{refl}
use Rattle.std.proofs.Common.{sym, ap, ◌∙◌, arith, add-one}
use mathlib.Core.List.{List, [], ◌∷◌, append-nil}
use Rattle.ranges.specs.Tests.{by_equal, by-test}
use Rattle.ranges.specs.Inserted.{inserted}
use Rattle.ranges.specs.InsertedLaws.{inserted-last, inserted-before}
use Rattle.tables.specs.Tables.{Tables}
use Rattle.soundness.specs.Facts.{Sound}
use Rattle.listing.specs.Register.{is_finished, places_below, inserted_all, begin_in, finished_below, by_begin_below, most_lines, register}
use Rattle.listing.specs.Places.{each_passes, by-begin-more}
use Rattle.listing.specs.Lengths.{few-lines}

-- ---- places that pass a test

places-nothing : (p : ℕ → Bool) (n : ℕ) → ((i : ℕ) → i < n → p i ≡ false) → places_below p n ≡ []
unfolding places_below
places-nothing p zero h = refl
places-nothing p (suc n) h = rw (places-nothing p n (λ i l. h i (omega arith)), h n (omega arith))

-- one place alone passes: as one WRITE alone bears a tag
pub places-one : (p : ℕ → Bool) (n place : ℕ) → place < n → p place ≡ true → ((i : ℕ) → i < n → (i ≡ place → ⊥) → p i ≡ false) →
    places_below p n ≡ place ∷ []
unfolding places_below
places-one p zero place h e f = let z : ⊥ = omega arith in absurd z
places-one p (suc n) place h e f =
    by_equal place n
    (λ d. rw (places-nothing p n (λ i l. f i (omega arith) (λ z. omega arith)), rw d at e) (ap (λ (k : ℕ). k ∷ []) (sym d)))
    (λ d. rw (places-one p n place (omega arith) e (λ i l. f i (omega arith)), f n (omega arith) (λ z. d (sym z))))

module _ (p p' : ℕ → Bool) where
  pub places_same : (n : ℕ) → ((i : ℕ) → i < n → p' i ≡ p i) → places_below p' n ≡ places_below p n
  unfolding places_below
  places_same zero h = refl
  places_same (suc n) h = rw (places_same n (λ i l. h i (omega arith)), h n (omega arith))

  -- one place more passes: it stands among the others by its number
  module _ (place : ℕ) (before : p place ≡ false) (now : p' place ≡ true) where
    abbrev Besides : ℕ → Type 0
    Besides n = (i : ℕ) → i < n → (i ≡ place → ⊥) → p' i ≡ p i

    -- those below it are as they were, and it goes last ..
    added-here : Besides (suc place) → places_below p' (suc place) ≡ inserted (λ i. i) place (places_below p (suc place))
    unfolding places_below
    added-here others =
        let below = each_passes (λ i. i ≤ place) p place (λ i l e. omega arith) in
        rw (
          now,
          before,
          places_same place (λ i l. others i (omega arith) (λ e. omega arith)),
          append-nil (places_below p place),
          inserted-last (λ (i : ℕ). i) place (places_below p place) below,
        )

    -- .. and those above it stay behind it
    added_past : (n : ℕ) → place < n → p' n ≡ p n → places_below p' n ≡ inserted (λ i. i) place (places_below p n) →
        places_below p' (suc n) ≡ inserted (λ i. i) place (places_below p (suc n))
    unfolding places_below
    added_past n l same e =
        by-test (p n)
        (λ b. rw (same, b, e) (sym (inserted-before (λ (i : ℕ). i) place n (places_below p n) l)))
        (λ b. rw (same, b, e, append-nil (places_below p n), append-nil (inserted (λ (i : ℕ). i) place (places_below p n))))

    pub places_added : (n : ℕ) → place < n → Besides n → places_below p' n ≡ inserted (λ i. i) place (places_below p n)
    places_added zero l others = let z : ⊥ = omega arith in absurd z
    places_added (suc n) l others =
        by_equal n place
        (λ e. rw e (added-here (rw e at others)))
        (λ d.
        let l' : place < n = omega arith in
        added_past n l' (others n (omega arith) d) (places_added n l' (λ i h. others i (omega arith))))

-- ---- "Records stand in order of begin"

-- the first n are in order of begin, and none of them began behind a step
pub record ByBegin (records : List ℕ) (n step : ℕ) : Type 0 where
  pub rise : (i j : ℕ) → i < j → j < n → begin_in records i < begin_in records j
  pub most : (i : ℕ) → i < n → begin_in records i ≤ step

-- there the sort leaves the places as they are
pub by-begin_sorted : (reads : List ℕ) (n step : ℕ) → ByBegin reads n step → by_begin_below reads n ≡ finished_below reads n
unfolding places_below inserted_all
by-begin_sorted reads zero step b = refl
by-begin_sorted reads (suc n) step b =
    let fewer : ByBegin reads n step = record { rise = λ i j l h. b.rise i j l (omega arith); most = λ i l. b.most i (omega arith) } in
    let before = by-begin_sorted reads n step fewer in
    let last =
    inserted-last (begin_in reads) n (finished_below reads n)
    (each_passes (λ i. begin_in reads i ≤ begin_in reads n) (is_finished reads) n (λ i l e. omega (arith, b.rise i n l (omega arith)))) in
    let more = rw (add-one n) at (by-begin-more reads n) in
    more ∙ by-test (is_finished reads n) (λ e. rw (e, before, last)) (λ e. rw (e, before, append-nil (finished_below reads n)))

module _ (records records' : List ℕ) (n step step' : ℕ) (same : (i : ℕ) → i < n → begin_in records' i ≡ begin_in records i)
    (b : ByBegin records n step) where
  -- steps go on
  pub begins_on : step ≤ step' → ByBegin records' n step'
  begins_on l = record {
    rise = λ i j h k. omega (arith, b.rise i j h k, same i (omega arith), same j k);
    most = λ i h. omega (arith, b.most i h, same i h);
  }

  -- one record more, begun behind that step
  pub begins-more : step < begin_in records' n → begin_in records' n ≤ step' → ByBegin records' (n + 1) step'
  begins-more later now = record {
    rise = λ i j h k.
        by_equal j n
        (λ e. rw e (omega (arith, b.most i (omega arith), same i (omega arith))))
        (λ d. omega (arith, b.rise i j h (omega arith), same i (omega arith), same j (omega arith)));
    most = λ i h.
        by_equal i n
        (λ e. rw e (omega arith))
        (λ d. omega (arith, b.most i (omega arith), same i (omega arith)));
  }

-- ---- on sound tables

pub register_few : (t : Tables) → Sound t → length (register t) ≤ most_lines
register_few t s = few-lines t (λ place h. (s.write place h).tag) (λ place h. (s.read place h).tag) s.scalars.writes s.scalars.reads
