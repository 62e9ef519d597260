-- Of specs/ReadBack: what cites a theorem there that a changed definition can make fail.
use Rattle.std.specs.Prelude.{ℕ, ◌≡◌, refl, List, [], ◌∷◌, length, eqb, leb}
use Rattle.std.proofs.Common.{◌∙◌, inl, eqb-true}
use Rattle.ranges.specs.Tests.{by-test}
use Rattle.schedule.specs.Decimal.{spaced_all}
use Rattle.schedule.specs.Steps.{line_most}
use Rattle.schedule.specs.Steps.{Named, named, step_of, line_byte, line_numbers, step_text}
use Rattle.schedule.specs.StepLaws.{step-read}
use Rattle.schedule.specs.Numbers.{numbers_of}
use Rattle.schedule.specs.ReadBack.{FitsLine, Told, named_back, numbers_back, numbers_only, told-pair, told-write, told_open}

-- A step printed as a line is read back as that step.
pub step_back : (n : Named) → FitsLine n → step_of (step_text n) ≡ n
step_back n f =
    step-read (line_byte n.step) (spaced_all (line_numbers n.step n.setpoints)) f.size
    ∙ rw (numbers_back (line_numbers n.step n.setpoints) f.numbers) (named_back n.step n.setpoints f.shape)

module _ (byte : ℕ) where
  told_named : (l : List ℕ) → Told (byte ∷ spaced_all l) (named byte l)
  told_named l =
      by-test (eqb byte 79) (λ e. rw e (told_open byte l (eqb-true byte 79 e)))
      (λ d. rw d (by-test (eqb byte 87) (λ e. rw e (told-write byte l (eqb-true byte 87 e))) (λ e. rw e (told-pair byte l))))

-- Each line names no step, or is the text of the step that it names.
pub step_only : (line : List ℕ) → Told line (step_of line)
unfolding step_of
step_only [] = inl refl
step_only (byte ∷ rest) =
    by-test (leb (length (byte ∷ rest)) line_most)
    (λ h. rw h (by-test (numbers_of rest).whole
    (λ e. rw e (rw (← numbers_only rest e) at (told_named byte (numbers_of rest).numbers)))
    (λ e. rw e (inl refl))))
    (λ h. rw h (inl refl))
