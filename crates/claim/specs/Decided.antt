-- Tests that decide: a test of a fact is true where the fact holds, and false where it is refuted. Of facts that are told apart by a
-- number, a computed list of tests says which hold and which are refuted.
use Rattle.std.specs.Prelude.{ℕ, ◌≤◌, ◌<◌, ◌≡◌, refl, Bool, true, false, not, ◌&&◌, ◌||◌, List, [], ◌∷◌, map, get_or, eqb, leb, ltb}
use Rattle.std.proofs.Common.{sym, ap, ◌∙◌, true≢false, arith, eq-eqb, eqb-true, leb-true, leb-false, ltb-true, ltb-false}
use Rattle.std.proofs.lemmas.Bool.{not-true, not-false, eqb-false}
use Rattle.ranges.specs.Each.{Each}
use Rattle.ranges.specs.All.{all_below}
use Rattle.ranges.specs.AllLaws.{all_at, all_fails}
use Rattle.ranges.specs.Tests.{by-test, not-both, both_left, both_right}

pub record Test (P : Type 0) : Type 0 where
  pub passes : Bool
  pub holds : passes ≡ true → P
  pub fails : passes ≡ false → P → ⊥

module _ {P : Type 0} where
  -- a fact that always holds, and one that never does
  abbrev pub always : P → Test P
  always p = record { passes = true; holds = λ e. p; fails = λ e. absurd (true≢false e) }

  abbrev pub never : (P → ⊥) → Test P
  never n = record { passes = false; holds = λ e. absurd (true≢false (sym e)); fails = λ e. n }

module _ {P Q : Type 0} where
  -- a fact that says the same
  abbrev pub meaning : Test P → (P → Q) → (Q → P) → Test Q
  meaning t f g = record { passes = t.passes; holds = λ e. f (t.holds e); fails = λ e q. t.fails e (g q) }

  abbrev pub both : Test P → Test Q → Test (P × Q)
  both s t = record {
    passes = s.passes && t.passes;
    holds = λ e. (s.holds (both_left s.passes t.passes e), t.holds (both_right s.passes t.passes e));
    fails = λ e z. by-test s.passes (λ a. t.fails (rw a at e) z.1) (λ a. s.fails a z.0);
  }

  abbrev pub only_if : Test P → Test Q → Test (P → Q)
  only_if s t = record {
    passes = not s.passes || t.passes;
    holds = λ e p. by-test s.passes (λ a. t.holds (rw a at e)) (λ a. absurd (s.fails a p));
    fails = λ e f. by-test s.passes (λ a. t.fails (rw a at e) (f (s.holds a))) (λ a. true≢false (rw a at e));
  }

-- of each of a list
abbrev pub each : {A : Type 0} {P : A → Type 0} → ((x : A) → Test (P x)) → (xs : List A) → Test (Each P xs)
each test [] = always tt
each test (x ∷ xs) = both (test x) (each test xs)

-- of each number below n
abbrev pub below : {P : ℕ → Type 0} → ((i : ℕ) → Test (P i)) → (n : ℕ) → Test ((i : ℕ) → i < n → P i)
below test n = record {
  passes = all_below (λ i. (test i).passes) n;
  holds = λ e i l. (test i).holds (all_at (λ j. (test j).passes) n e i l);
  fails = λ e f. let one = all_fails (λ j. (test j).passes) n e in (test one.0).fails one.2 (f one.0 one.1);
}

-- numbers and truth values
abbrev pub equal : (m n : ℕ) → Test (m ≡ n)
equal m n = record { passes = eqb m n; holds = eqb-true m n; fails = eqb-false m n }

abbrev pub most : (m n : ℕ) → Test (m ≤ n)
most m n = record { passes = leb m n; holds = leb-true m n; fails = λ e l. omega (arith, leb-false m n e) }

abbrev pub less : (m n : ℕ) → Test (m < n)
less m n = record { passes = ltb m n; holds = ltb-true m n; fails = λ e l. omega (arith, ltb-false m n e) }

abbrev pub is : (kind b : Bool) → Test (b ≡ kind)
is true b = record { passes = b; holds = λ e. e; fails = λ e d. not-both d e }
is false b = record { passes = not b; holds = not-true b; fails = λ e d. not-both (not-false b e) d }

-- ---- which of some facts are broken

-- a fact is refuted where it is broken, and else it holds
abbrev pub Stated : Bool → Type 0 → Type 0
Stated true P = P → ⊥
Stated false P = P

stated_by : (P : Type 0) (b : Bool) (t : Test P) → t.passes ≡ not b → Stated b P
stated_by P true t e = t.fails e
stated_by P false t e = t.holds e

-- all of them, each at its number
module _ {A : Type 0} (place_of : A → ℕ) (all : List A) where
  abbrev pub among : A → List A → Bool
  among x [] = false
  among x (y ∷ ys) = eqb (place_of x) (place_of y) || among x ys

  abbrev pub InPlace : Type 0
  InPlace = (test : A → Bool) (x : A) → get_or (map test all) (place_of x) true ≡ test x

  -- what the tests of all of them say, where these are broken
  abbrev pub Computed : List Bool → List A → Type 0
  Computed said broken = said ≡ map (λ x. not (among x broken)) all

  pub all_stated : InPlace → (P : A → Type 0) (test : (x : A) → Test (P x)) (broken : List A) →
      Computed (map (λ y. (test y).passes) all) broken → (x : A) → Stated (among x broken) (P x)
  all_stated place P test broken e x =
      let tests : A → Bool = λ y. (test y).passes in
      let others : A → Bool = λ y. not (among y broken) in
      stated_by (P x) (among x broken) (test x)
      (sym (place tests x) ∙ ap (λ (l : List Bool). get_or l (place_of x) true) e ∙ place others x)

  -- the first of those that are broken is
  pub first-broken : (P : A → Type 0) (x : A) (more : List A) → Stated (among x (x ∷ more)) (P x) → P x → ⊥
  first-broken P x more s = rw (eq-eqb (place_of x) (place_of x) refl) at s
