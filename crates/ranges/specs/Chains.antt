-- std's chains over a range are these folds: what a chain over 0..n answers, from its call's clause `ran` and what its closure computes.
-- In each, n is where the range ends, and m how the definition names n.
use Rattle.std.specs.Prelude.{ℕ, zero, suc, ◌+◌, ◌≤◌, ◌<◌, ◌≡◌, refl, Bool, true, false, ◌||◌, ltb, List, [], ◌∷◌, ◌++◌, length, Option, None, Some}
use Rattle.std.specs.List.{range_with_len, list_all, list_any, filter, FoldsTo}
use Rattle.std.specs.Bool.{⊤}
use Rattle.std.specs.Fn.{Called, CalledAt}
use Rattle.std.specs.Iterator.{YieldsThen, Drains}
use Rattle.std.specs.Iterator.Adapters.{filter_source, filter_callee, filter_steps}
use Rattle.std.specs.Option.{MatchOption, unwrap_or}
use Rattle.std.proofs.Common.{sym, ap, ◌∙◌, arith, ltb-true, ltb-false}
use Rattle.std.proofs.Math.Bool.{and-true, or-false}
use Rattle.std.proofs.iter.Yields.{nat_range_steps}
use Rattle.std.proofs.lemmas.Iterator.{YieldsList-from_range, first_from_Range}
use Rattle.std.proofs.lemmas.Iterator.Search.{all_from_yields_List, any_from_yields_List}
use Rattle.std.proofs.lemmas.List.Folds.{list_all-append}
use Rattle.std.proofs.lemmas.Iterator.Consumers.{count_from_yields_List, YieldsList-from_filter}
use Rattle.std.specs.declared.ops.Range.{Range}
use Rattle.std.specs.declared.iter.Filter.{Filter}
use denote.Param.Members.{Mut}
use denote.Ref.{Bor}
use Rattle.ranges.specs.Tests.{by-test}
use Rattle.ranges.specs.All.{all_below, any_below}
use Rattle.ranges.specs.Sum.{sum_below, one, count_below}
use Rattle.ranges.specs.First.{first_below}
use Rattle.ranges.specs.FirstLaws.{Sought, first_is}

-- the last number of a range stands at its end
range-more : (a n : ℕ) → range_with_len a (suc n) ≡ range_with_len a n ++ (a + n) ∷ []
range-more a zero = let e : a ≡ a + 0 = omega arith in ap (λ k. k ∷ []) e
range-more a (suc n) =
    let e : (a + 1) + n ≡ a + suc n = omega arith in
    ap (λ xs. a ∷ xs) (range-more (a + 1) n) ∙ ap (λ k. a ∷ (range_with_len (a + 1) n ++ k ∷ [])) e

below-more : (n : ℕ) → range_with_len 0 (suc n) ≡ range_with_len 0 n ++ n ∷ []
below-more n = let e : 0 + n ≡ n = omega arith in range-more 0 n ∙ ap (λ k. range_with_len 0 n ++ k ∷ []) e

-- what holds below a, and from a to i, holds
from-parts : (P : ℕ → Type 0) (a i : ℕ) → ((j : ℕ) → j < a → P j) → ((j : ℕ) → a ≤ j → j < i → P j) → (j : ℕ) → j < i → P j
from-parts P a i low high j l = by-test (ltb j a) (λ e. low j (ltb-true j a e)) (λ e. high j (ltb-false j a e) l)

module _ (p : ℕ → Bool) where
  list_any-append : (xs : List ℕ) (k : ℕ) → list_any p (xs ++ k ∷ []) ≡ (list_any p xs || p k)
  list_any-append [] k = or-false (p k)
  list_any-append (x ∷ xs) k = by-test (p x) (λ e. rw e) (λ e. rw e (list_any-append xs k))

  all_range : (n : ℕ) → list_all p (range_with_len 0 n) ≡ all_below p n
  unfolding all_below
  all_range zero = refl
  all_range (suc n) =
      ap (list_all p) (below-more n)
      ∙ list_all-append p (range_with_len 0 n) (n ∷ [])
      ∙ rw (all_range n, and-true (p n))

  any_range : (n : ℕ) → list_any p (range_with_len 0 n) ≡ any_below p n
  unfolding any_below
  any_range zero = refl
  any_range (suc n) = ap (list_any p) (below-more n) ∙ list_any-append (range_with_len 0 n) n ∙ rw (any_range n)

  filtered : (xs : List ℕ) (k : ℕ) → length (filter p (xs ++ k ∷ [])) ≡ length (filter p xs) + one (p k)
  filtered [] k = by-test (p k) (λ e. rw e) (λ e. rw e)
  filtered (x ∷ xs) k = by-test (p x) (λ e. rw e (omega (arith, filtered xs k))) (λ e. rw e (filtered xs k))

  count_range : (n : ℕ) → length (filter p (range_with_len 0 n)) ≡ count_below p n
  unfolding sum_below
  count_range zero = refl
  count_range (suc n) = ap (λ xs. length (filter p xs)) (below-more n) ∙ filtered (range_with_len 0 n) n ∙ rw (count_range n)

  -- `(0..n).all(..)`
  pub all_ran : {F : Type 0} {g : Mut F (ℕ × Unit {0}) Bool} {s : Range ℕ} (n m : ℕ) (u : Range ℕ) (f : F) (r : Bool)
      → (xs : List ℕ) × (o : Option ℕ) × (j : F) × YieldsThen nat_range_steps s xs o u × FoldsTo (λ d x q. Called g d (x, tt) true q) f xs j
      × MatchOption o (r ≡ true) (λ x. (r ≡ false) × ((h : F) × Called g j (x, tt) false h))
      → s ≡ record { start = 0; end = n } → n ≡ m → ((x : ℕ) (b : Bool) (q : F) → Called g f (x, tt) b q → (q ≡ f) × (b ≡ p x)) → r ≡ all_below p m
  all_ran n m u f r ran e d k = all_from_yields_List p u f r ran (YieldsList-from_range 0 n n e (omega arith)) k ∙ all_range n ∙ ap (all_below p) d

  -- `(0..n).any(..)`
  pub any_ran : {F : Type 0} {g : Mut F (ℕ × Unit {0}) Bool} {s : Range ℕ} (n m : ℕ) (u : Range ℕ) (f : F) (r : Bool)
      → (xs : List ℕ) × (o : Option ℕ) × (j : F) × YieldsThen nat_range_steps s xs o u × FoldsTo (λ d x q. Called g d (x, tt) false q) f xs j
      × MatchOption o (r ≡ false) (λ x. (r ≡ true) × ((h : F) × Called g j (x, tt) true h))
      → s ≡ record { start = 0; end = n } → n ≡ m → ((x : ℕ) (b : Bool) (q : F) → Called g f (x, tt) b q → (q ≡ f) × (b ≡ p x)) → r ≡ any_below p m
  any_ran n m u f r ran e d k = any_from_yields_List p u f r ran (YieldsList-from_range 0 n n e (omega arith)) k ∙ any_range n ∙ ap (any_below p) d

  -- `(0..n).filter(..).count()`
  pub count_ran : {F : Type 0} {g : Mut F (Bor ℕ × Unit {0}) Bool} {s : Filter (Range ℕ) F} (n m : ℕ) (f : F) (r : ℕ)
      → (xs : List ℕ) × Drains (filter_steps nat_range_steps g) s xs × (r ≡ length xs)
      → filter_source s ≡ record { start = 0; end = n } → filter_callee s ≡ f → n ≡ m
      → ((x : ℕ) (b : Bool) (q : F) → CalledAt g f x b q → (q ≡ f) × (b ≡ p x)) → r ≡ count_below p m
  count_ran {g = g} {s} n m f r ran e callee d k =
      count_from_yields_List s r ran (YieldsList-from_filter g p (YieldsList-from_range 0 n n e (omega arith)) callee k)
      ∙ count_range n ∙ ap (count_below p) d

  -- `(a..n).find(..)`, where none before a passes
  pub first_ran : {F : Type 0} {g : Mut F (Bor ℕ × Unit {0}) Bool} {s : Range ℕ} (a n : ℕ) (u : Range ℕ) (f : F) (r : Option ℕ)
      → (xs : List ℕ) × (j : F) × YieldsThen nat_range_steps s xs r u × FoldsTo (λ d x q. CalledAt g d x false q) f xs j
      × MatchOption r ⊤ (λ x. (h : F) × CalledAt g j x true h)
      → s ≡ record { start = a; end = n } → Sought p n a → ((x : ℕ) (b : Bool) (q : F) → CalledAt g f x b q → (q ≡ f) × (b ≡ p x)) → unwrap_or r n ≡ first_below p n
  first_ran {s = s} a n u f r ran e sought k =
      found r (first_from_Range s u f r (λ i. p i ≡ true) (λ i. p i ≡ false) ran (λ x q h. sym (k x true q h).1) (λ x q h. ((k x false q h).0, sym (k x false q h).1)))
    where
      from : s.start ≡ a
      from = ap (λ (x : Range ℕ). x.start) e

      to : s.end ≡ n
      to = ap (λ (x : Range ℕ). x.end) e

      found : (r : Option ℕ) → MatchOption r ((k : ℕ) → s.start ≤ k → k < s.end → p k ≡ false) (λ i. (s.start ≤ i) × (i < s.end) × (p i ≡ true) × ((k : ℕ) → s.start ≤ k → k < i → p k ≡ false)) → unwrap_or r n ≡ first_below p n
      found None h = first_is p n (record {
        within = omega arith;
        before = from-parts (λ j. p j ≡ false) a n sought.before (λ j d l. h j (omega (arith, from)) (omega (arith, to)));
        here = λ l. let z : ⊥ = omega (arith, l) in absurd z;
      })
      found (Some i) h = first_is p n (record {
        within = omega (arith, to, h.1);
        before = from-parts (λ j. p j ≡ false) a i sought.before (λ j d l. h.3 j (omega (arith, from)) l);
        here = λ l. h.2;
      })
