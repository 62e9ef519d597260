-- Of specs/StepLaws: what cites a theorem there that a changed definition can make fail.
use Rattle.std.specs.Prelude.{ℕ, ◌≤◌, ◌≡◌, List, [], ◌∷◌, length, eqb, leb}
use Rattle.std.proofs.Common.{◌∙◌, arith, leb-true}
use Rattle.ranges.specs.Tests.{either, by-test}
use Rattle.schedule.specs.declared.Reading.{Reading}
use Rattle.schedule.specs.NumberLaws.{numbers_few}
use Rattle.schedule.specs.Numbers.{numbers_of}
use Rattle.schedule.specs.Steps.{line_most, numbers_most, setpoints_most}
use Rattle.schedule.specs.Steps.{Named, unreadable, named, step_of, reading_of, Names}
use Rattle.schedule.specs.StepLaws.{few-pair, few-write, few_open, names-none, pair, pair-not}

module _ (byte : ℕ) (l held : List ℕ) {r : Reading} where
  module _ (d : byte ≡ 79 → ⊥) (e : byte ≡ 87 → ⊥) where
    pub names_other : (length l ≡ 2 → ⊥) → r ≡ reading_of unreadable → Names (named byte l) held r held
    names_other f is = names-none held (pair byte l d e ∙ pair-not byte l f) is

few-named : (byte : ℕ) (l : List ℕ) → length l ≤ numbers_most → length (named byte l).setpoints ≤ setpoints_most
few-named byte l h =
    either (λ (n : Named). length n.setpoints ≤ setpoints_most) (eqb byte 79)
    (few_open l h)
    (either (λ (n : Named). length n.setpoints ≤ setpoints_most) (eqb byte 87) (few-write l h) (few-pair byte l))

pub few_setpoints : (line : List ℕ) → length (step_of line).setpoints ≤ setpoints_most
unfolding step_of
few_setpoints [] = omega arith
few_setpoints (byte ∷ rest) =
    by-test (leb (length (byte ∷ rest)) line_most)
    (λ e. rw e (either (λ (n : Named). length n.setpoints ≤ setpoints_most) (numbers_of rest).whole
    (few-named byte (numbers_of rest).numbers (omega (arith, numbers_few rest, leb-true (length (byte ∷ rest)) line_most e)))
    (omega arith)))
    (λ e. rw e (omega arith))
