-- A conjunction of several tests, as the list of them: one law for every length takes it apart, and one puts it together.
use Rattle.std.specs.Prelude.{◌≡◌, refl, Bool, true, ◌&&◌, List, [], ◌∷◌}
use Rattle.ranges.specs.Tests.{both, both_left, both_right}

-- `a && b && c` for the list of a, b and c
abbrev pub every_from : Bool → List Bool → Bool
every_from a [] = a
every_from a (b ∷ tests) = every_from (a && b) tests

abbrev pub every : List Bool → Bool
every [] = true
every (a ∷ tests) = every_from a tests

-- the tests passed, one by one
abbrev pub Passed : List Bool → Type 0
Passed [] = Unit {0}
Passed (a ∷ tests) = (a ≡ true) × Passed tests

passed_from : (a : Bool) (tests : List Bool) → every_from a tests ≡ true → (a ≡ true) × Passed tests
passed_from a [] e = (e, tt)
passed_from a (b ∷ tests) e =
    let f = passed_from (a && b) tests e in
    (both_left a b f.0, (both_right a b f.0, f.1))

pub passed : (tests : List Bool) → every tests ≡ true → Passed tests
passed [] e = tt
passed (a ∷ tests) e = passed_from a tests e

every_from_lem : (a : Bool) (tests : List Bool) → a ≡ true → Passed tests → every_from a tests ≡ true
every_from_lem a [] d f = d
every_from_lem a (b ∷ tests) d f = every_from_lem (a && b) tests (both a b d f.0) f.1

pub every-passed : (tests : List Bool) → Passed tests → every tests ≡ true
every-passed [] f = refl
every-passed (a ∷ tests) f = every_from_lem a tests f.0 f.1
