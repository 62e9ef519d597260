-- What is equal, by a test that computes, and what is not.
use Rattle.std.specs.Prelude.{ℕ, ◌≡◌, refl, Bool, true, false, ◌&&◌, List, [], ◌∷◌, eqb}
use Rattle.std.proofs.Common.{sym, true≢false, arith, eqb-true}
use Rattle.ranges.specs.Tests.{both_left, both_right}
use Rattle.ranges.specs.Every.{passed, every}
use Rattle.tables.specs.Tables.{Tables}

-- 0 and 1 are not: where two constructors are told equal, `cc` finds that they are
pub differ : {C : Type 0} → ◌≡◌ {A = ℕ} 0 1 → C
differ e = let z : ⊥ = omega arith in absurd z

-- tables, word by word
abbrev same_words : List ℕ → List ℕ → Bool
same_words [] [] = true
same_words [] (y ∷ ys) = false
same_words (x ∷ xs) [] = false
same_words (x ∷ xs) (y ∷ ys) = eqb x y && same_words xs ys

same-words : (xs ys : List ℕ) → same_words xs ys ≡ true → xs ≡ ys
same-words [] [] e = refl
same-words [] (y ∷ ys) e = absurd (true≢false (sym e))
same-words (x ∷ xs) [] e = absurd (true≢false (sym e))
same-words (x ∷ xs) (y ∷ ys) e =
    rw (eqb-true x y (both_left (eqb x y) (same_words xs ys) e), same-words xs ys (both_right (eqb x y) (same_words xs ys) e))

abbrev tests : Tables → Tables → List Bool
tests t u =
    same_words t.counts u.counts ∷ same_words t.clients u.clients ∷ same_words t.links u.links ∷
    same_words t.keys u.keys ∷ same_words t.values u.values ∷ same_words t.log u.log ∷
    same_words t.writes u.writes ∷ same_words t.reads u.reads ∷ []

abbrev pub same_tables : Tables → Tables → Bool
same_tables t u = every (tests t u)

pub same_tables_lem : (t u : Tables) → same_tables t u ≡ true → t ≡ u
same_tables_lem t u e =
    let f = passed (tests t u) e in
    rw (
      same-words t.counts u.counts f.0,
      same-words t.clients u.clients f.1.0,
      same-words t.links u.links f.1.1.0,
      same-words t.keys u.keys f.1.1.1.0,
      same-words t.values u.values f.1.1.1.1.0,
      same-words t.log u.log f.1.1.1.1.1.0,
      same-words t.writes u.writes f.1.1.1.1.1.1.0,
      same-words t.reads u.reads f.1.1.1.1.1.1.1.0,
    )
