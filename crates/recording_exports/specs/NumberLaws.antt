-- No two answers that comparing can give have one number.
use Rattle.std.specs.Prelude.{◌≡◌, refl, ℕ, suc, ◌+◌, ◌*◌, ◌/◌, ◌%◌, ◌≤◌, ◌<◌, List, [], ◌∷◌, true, ltb, length, drop}
use Rattle.std.proofs.Common.{sym, ap, ◌∙◌, arith, ltb-true, ltb-false}
use Rattle.std.proofs.Math.Arith.{digits_div, digits_mod}
use Rattle.ranges.specs.Tests.{by-test, both_left, both_right}
use Rattle.recordings.specs.Compared.{Compared}
use Rattle.recordings.specs.Compared.{Agree, Differ, Refused}
use Rattle.recordings.specs.Recording.{frames_of, most_frames, well_made, is_on}
use Rattle.recordings.specs.Comparing.{frames_on, compared}
use Rattle.recordings.specs.Claim.{Right, Claim}
use Rattle.recordings.specs.Whole.{well-made-least}
use Rattle.recordings.proofs.ClaimLaws.{claim}
use Rattle.recording_exports.specs.Numbers.{compared_number}

-- what an answer has: a target below 256, a place below 65,536, a refusal that is a number below 256 and not 0
abbrev pub Told : Compared → Type 0
Told Agree = 0 < 1
Told (Differ client target place) = (target < 256) × (place < 65536)
Told (Refused n) = (0 < n) × (n < 256)

-- two digits tell each
digits-once : (x y : ℕ) {b a d : ℕ} → a < b → d < b → x * b + a ≡ y * b + d → (x ≡ y) × (a ≡ d)
digits-once x y {b} h k e =
    (sym (digits_div x h) ∙ ap (λ (n : ℕ). n / b) e ∙ digits_div y k, sym (digits_mod x h) ∙ ap (λ (n : ℕ). n % b) e ∙ digits_mod y k)

pub number-once : (a b : Compared) → Told a → Told b → compared_number a ≡ compared_number b → a ≡ b
number-once Agree Agree h k e = refl
number-once Agree (Differ c t n) h k e = let z : ⊥ = omega arith in absurd z
number-once Agree (Refused n) h k e = let z : ⊥ = omega arith in absurd z
number-once (Differ c t n) Agree h k e = let z : ⊥ = omega arith in absurd z
number-once (Differ c t n) (Differ c' t' n') h k e =
    let q = digits-once (c * 256 + t) (c' * 256 + t') h.1 k.1 (omega arith) in
    let r = digits-once c c' h.0 k.0 q.0 in
    λ i. Differ (r.0 i) (r.1 i) (q.1 i)
number-once (Differ c t n) (Refused m) h k e = let z : ⊥ = omega arith in absurd z
number-once (Refused n) Agree h k e = let z : ⊥ = omega arith in absurd z
number-once (Refused m) (Differ c t n) h k e = let z : ⊥ = omega arith in absurd z
number-once (Refused n) (Refused m) h k e = ap Refused e

-- ---- what comparing answers is so told

on_fewer : (client target : ℕ) (frames : List (List ℕ)) → length (frames_on client target frames) ≤ length frames
unfolding frames_on
on_fewer client target [] = omega arith
on_fewer client target (frame ∷ frames) =
    let h = on_fewer client target frames in
    by-test (is_on client target frame) (λ e. rw e (omega arith)) (λ e. rw e (omega arith))

as_many : (lengths bytes : List ℕ) → length (frames_of lengths bytes) ≡ length lengths
unfolding frames_of
as_many [] bytes = refl
as_many (n ∷ lengths) bytes = ap suc (as_many lengths (drop n bytes))

-- a link has at most as many frames as a recording may have
few_on : (client target : ℕ) (lengths bytes : List ℕ) → well_made lengths bytes ≡ true
    → length (frames_on client target (frames_of lengths bytes)) ≤ most_frames
few_on client target lengths bytes t =
    omega (
      arith,
      on_fewer client target (frames_of lengths bytes),
      as_many lengths bytes,
      well-made-least lengths bytes t,
    )

module _ (lengths bytes lengths' bytes' : List ℕ) where
  told_by : (a : Compared) → compared lengths bytes lengths' bytes' ≡ a → Told a
  told_by Agree e = omega arith
  told_by (Refused n) e =
      let r = (claim.right lengths bytes lengths' bytes').refused_only n e in
      (omega (arith, r.0), omega (arith, r.0))
  told_by (Differ c t n) e =
      let r = (claim.right lengths bytes lengths' bytes').differ_only c t n e in
      let w = r.1 in
      let k = few_on c t lengths bytes (both_left _ _ r.0) in
      let k' = few_on c t lengths' bytes' (both_right (well_made lengths bytes) _ r.0) in (
        omega (arith, w.target_there),
        by-test (ltb n 65536)
            (λ b. ltb-true n 65536 b)
            (λ b. let h = ltb-false n 65536 b in absurd (w.first.some (omega arith) (omega arith))),
      )

  pub compared-told : Told (compared lengths bytes lengths' bytes')
  compared-told = told_by (compared lengths bytes lengths' bytes') refl
