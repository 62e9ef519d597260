-- Places of records beside transactions, one for one: what holds of each two of them, and what it says of those of a tag.
use Rattle.std.specs.Prelude.{ℕ, ◌≡◌, Bool, eqb, ltb}
use Rattle.std.proofs.Math.Path.{refl}
use Rattle.std.proofs.Common.{ap₂}
use mathlib.Core.List.{List, [], ◌∷◌, map}
use Rattle.ranges.specs.Tests.{by-test}
use Rattle.ranges.specs.Each.{Each}
use Rattle.ranges.specs.Inserted.{inserted}
use Rattle.listing.specs.Register.{passing}
use Rattle.claim.specs.History.{Transaction}
use Rattle.claim.specs.Row.{reads_of}
use Rattle.listed_order.specs.Order.{Particulars}

abbrev pub Both : (ℕ → Transaction → Type 0) → List ℕ → List Transaction → Type 0
Both R [] [] = Unit {0}
Both R [] (x ∷ xs) = ⊥
Both R (place ∷ places) [] = ⊥
Both R (place ∷ places) (x ∷ xs) = R place x × Both R places xs

module _ (R : ℕ → Transaction → Type 0) where
  pub both-map : (S : ℕ → Transaction → Type 0) (P : ℕ → Type 0) → ((place : ℕ) (x : Transaction) → P place → R place x → S place x) →
      (places : List ℕ) (xs : List Transaction) → Each P places → Both R places xs → Both S places xs
  both-map S P f [] [] e b = tt
  both-map S P f [] (y ∷ ys) e b = absurd b
  both-map S P f (p ∷ ps) [] e b = absurd b
  both-map S P f (p ∷ ps) (y ∷ ys) e b = (f p y e.0 b.0, both-map S P f ps ys e.1 b.1)

  -- one of each more, inserted by numbers that compare alike
  module _ (f : ℕ → ℕ) (g : Transaction → ℕ) (place : ℕ) (x : Transaction) (r : R place x) where
    pub both-inserted : (places : List ℕ) (xs : List Transaction) → Both R places xs →
        Both (λ p y. ltb (f place) (f p) ≡ ltb (g x) (g y)) places xs → Both R (inserted f place places) (inserted g x xs)
    unfolding inserted
    both-inserted [] [] b s = (r, tt)
    both-inserted [] (y ∷ ys) b s = absurd b
    both-inserted (p ∷ ps) [] b s = absurd b
    both-inserted (p ∷ ps) (y ∷ ys) b s =
        by-test (ltb (g x) (g y))
        (λ e. rw (s.0, e) (r, b))
        (λ e. rw (s.0, e) (b.0, both-inserted ps ys b.1 s.1))

  -- the places that bear a tag beside the READs of that tag
  module _ (tag : ℕ) (test : ℕ → Bool) (same_test : (place : ℕ) (x : Transaction) → R place x → test place ≡ eqb x.tag tag)
      (f : ℕ → Particulars) (g : Transaction → Particulars) (same : (place : ℕ) (x : Transaction) → R place x → f place ≡ g x) where
    pub both_of-tag : (places : List ℕ) (xs : List Transaction) → Both R places xs → map f (passing test places) ≡ map g (reads_of tag xs)
    unfolding passing reads_of
    both_of-tag [] [] b = refl
    both_of-tag [] (y ∷ ys) b = absurd b
    both_of-tag (p ∷ ps) [] b = absurd b
    both_of-tag (p ∷ ps) (y ∷ ys) b =
        let rest = both_of-tag ps ys b.1 in
        by-test (eqb y.tag tag)
        (λ e. rw (same_test p y b.0, e) (ap₂ {C = List Particulars} (λ (x : Particulars) (l : List Particulars). x ∷ l) (same p y b.0) rest))
        (λ e. rw (same_test p y b.0, e) rest)
