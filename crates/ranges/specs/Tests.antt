-- Tests: Booleans as they decide a definition's cases.
use Rattle.std.specs.Prelude.{ℕ, ◌≤◌, ◌<◌, ◌≡◌, refl, Bool, true, false, cond, not, ◌&&◌, ◌||◌, eqb, leb}
use Rattle.std.proofs.Common.{sym, ◌∙◌, true≢false, arith, eqb-true, eq-eqb, ne_eqb, le-leb}
use Rattle.std.proofs.lemmas.Bool.{not-true, not-false, eqb-false, lt-leb}

-- a value that a test picks has what both values have
pub either : {A : Type 0} (P : A → Type 0) (b : Bool) {x y : A} → P x → P y → P (cond b x y)
either P true p q = p
either P false p q = q

-- two numbers are equal or not
pub by_equal : {C : Type 0} (m n : ℕ) → (m ≡ n → C) → ((m ≡ n → ⊥) → C) → C
by_equal {C} m n same other = go (eqb m n) refl
  where
    go : (b : Bool) → eqb m n ≡ b → C
    go true e = same (eqb-true m n e)
    go false e = other (eqb-false m n e)

-- a test is true or false
pub by-test : {C : Type 0} (b : Bool) → (b ≡ true → C) → (b ≡ false → C) → C
by-test true yes' no' = yes' refl
by-test false yes' no' = no' refl

-- a test is not both
pub not-both : {b : Bool} → b ≡ true → b ≡ false → ⊥
not-both d e = true≢false (sym d ∙ e)

-- both tests of a conjunction
pub both : (a b : Bool) → a ≡ true → b ≡ true → (a && b) ≡ true
both a b d e = rw (d, e)

pub both_left : (a b : Bool) → (a && b) ≡ true → a ≡ true
both_left true b e = refl
both_left false b e = e

pub both_right : (a b : Bool) → (a && b) ≡ true → b ≡ true
both_right true b e = e
both_right false b e = absurd (true≢false (sym e))

-- a check r answered no, or yes: so does its definition
module _ {r a : Bool} where
  pub fails : r ≡ a → not r ≡ true → a ≡ false
  fails d e = sym d ∙ not-true r e

  pub holds : r ≡ a → not r ≡ false → a ≡ true
  holds d e = sym d ∙ not-false r e

-- tests one behind the other: the first that fails ends a conjunction, the first that holds a disjunction, and else the next decides
module _ {a : Bool} (b : Bool) where
  pub and_stops : a ≡ false → (a && b) ≡ false
  and_stops e = rw e

  pub and_goes_on : {v : Bool} → a ≡ true → b ≡ v → (a && b) ≡ v
  and_goes_on e d = rw e d

  pub or_stops : a ≡ true → (a || b) ≡ true
  or_stops e = rw e

  pub or_goes_on : {v : Bool} → a ≡ false → b ≡ v → (a || b) ≡ v
  or_goes_on e d = rw e d

-- a test of a word m that was read as n
module _ {m n v : ℕ} (e : n ≡ m) where
  pub most : n ≤ v → leb m v ≡ true
  most h = rw (← e) (le-leb n v h)

  pub above : v < n → leb m v ≡ false
  above h = rw (← e) (lt-leb n v h)

  pub least : v ≤ n → leb v m ≡ true
  least h = rw (← e) (le-leb v n h)

  pub under : n < v → leb v m ≡ false
  under h = rw (← e) (lt-leb v n h)

  pub is : n ≡ v → eqb m v ≡ true
  is h = rw (← e) (eq-eqb n v h)

  pub is-not : (n ≡ v → ⊥) → eqb m v ≡ false
  is-not h = rw (← e) (ne_eqb n v h)

-- a number is at most one that it equals
pub at_most : {m n : ℕ} → m ≡ n → m ≤ n
at_most {m} {n} e = omega (arith, e)
