-- Laws of a line of two numbers, one for each way that its reader goes.
use Rattle.std.specs.Prelude.{ℕ, suc, ◌+◌, ◌≤◌, ◌<◌, ◌≡◌, refl, true, false, cond, List, [], ◌∷◌, drop, eqb}
use Rattle.std.proofs.Common.{sym, ◌∙◌, true≢false, length-drop, eq-eqb, ne_eqb}
use native.Mathlib.Omega.{arith}
use Rattle.std.proofs.Math.ListN.{length, drop_of_length-le}
use Rattle.ranges.specs.Tests.{either, by-test}
use Rattle.schedule.specs.Number.{Number}
use Rattle.schedule.specs.Number.{Value, Not}
use Rattle.schedule.specs.Numbers.{spaced_of, Read, read_then, numbers_behind, numbers_of}
use Rattle.schedule.specs.NumberLaws.{skipped}
use Rattle.schedule.specs.declared.Reading.{Reading}
use Rattle.schedule.specs.Steps.{Named, unreadable, named, named_pair, pair_named, named_by, reading_of, Names}
use Rattle.schedule.specs.StepLaws.{pair-alone}
use Rattle.schedule.specs.Pairs.{may_have_setpoints, pair_behind}

-- which bytes may begin a line with setpoints
module _ (byte : ℕ) where
  pub opens_so : byte ≡ 79 → true ≡ may_have_setpoints byte
  unfolding may_have_setpoints
  opens_so e = rw (eq-eqb _ _ e)

  pub else-writes : (byte ≡ 79 → ⊥) → eqb byte 87 ≡ may_have_setpoints byte
  unfolding may_have_setpoints
  else-writes e = rw (ne_eqb _ _ e)

  -- a line of any other byte is one of two numbers, or no step
  named-pair : may_have_setpoints byte ≡ false → (numbers : List ℕ) → named byte numbers ≡ named_pair byte numbers
  unfolding may_have_setpoints
  named-pair h numbers = by-test (eqb byte 79)
      (λ e. absurd (true≢false (rw e at h)))
      (λ e. rw (e, rw e at h))

-- the numbers of a text by what stands at its front
none_read : (s : List ℕ) → spaced_of s ≡ Not → (numbers_of s).numbers ≡ []
unfolding numbers_behind
none_read [] e = refl
none_read (b ∷ rest) e = rw e

first_read : (s : List ℕ) {v n : ℕ} → spaced_of s ≡ Value v n
    → numbers_of s ≡ record { whole = (numbers_of (drop (1 + n) s)).whole; numbers = v ∷ (numbers_of (drop (1 + n) s)).numbers }
unfolding numbers_behind spaced_of
first_read [] e = let z : ◌≡◌ {A = ℕ} 0 1 = cc in let y : ⊥ = omega arith in absurd y
first_read (b ∷ rest) {v} {n} e = let p : 1 + n ≡ suc n = omega arith in rw (e, p, skipped n rest)

-- a step of two numbers has no third
third_then : (byte a b : ℕ) (r : Number) (more : ℕ → Read)
    → cond (read_then r more).whole (named_pair byte (a ∷ b ∷ (read_then r more).numbers)) unreadable ≡ unreadable
third_then byte a b Not more = refl
third_then byte a b (Value v n) more = either (λ (x : Named). x ≡ unreadable) (more n).whole refl refl

third : (byte a b : ℕ) (s : List ℕ) → 0 < length s
    → cond (numbers_of s).whole (named_pair byte (a ∷ b ∷ (numbers_of s).numbers)) unreadable ≡ unreadable
unfolding numbers_behind
third byte a b [] h = let z : ⊥ = omega arith in absurd z
third byte a b (d ∷ rest) h = third_then byte a b (spaced_of (d ∷ rest)) (λ size. numbers_behind size rest)

-- what stands behind the first number: r is what was read there
module _ (byte first : ℕ) (s : List ℕ) {r : Number} (is : r ≡ spaced_of s) where
  pub second_none : r ≡ Not → unreadable ≡ pair_behind byte first (numbers_of s)
  second_none e = rw (none_read s (sym is ∙ e)) (either (λ (x : Named). unreadable ≡ x) (numbers_of s).whole refl refl)

  module _ {second n : ℕ} (e : r ≡ Value second n) where
    pub second-last : length s ≡ 1 + n → pair_named byte first second ≡ pair_behind byte first (numbers_of s)
    unfolding numbers_behind
    second-last h = let k : length s ≤ 1 + n = omega arith in rw (first_read s (sym is ∙ e), drop_of_length-le s k)

    pub second_more : 1 + n < length s → unreadable ≡ pair_behind byte first (numbers_of s)
    second_more h =
        let more : 0 < length (drop (1 + n) s) = omega (arith, length-drop (1 + n) s) in
        rw (first_read s (sym is ∙ e)) (sym (third byte first second (drop (1 + n) s) more))

-- a line of another byte than O and W
module _ (byte : ℕ) (h : may_have_setpoints byte ≡ false) where
  module _ (s : List ℕ) {r : Number} (is : r ≡ spaced_of s) where
    pub first-none : r ≡ Not → unreadable ≡ named_by byte (numbers_of s)
    first-none e =
        rw (named-pair byte h (numbers_of s).numbers, none_read s (sym is ∙ e))
        (either (λ (x : Named). unreadable ≡ x) (numbers_of s).whole refl refl)

    pub first_then : {first n : ℕ} → r ≡ Value first n → pair_behind byte first (numbers_of (drop (1 + n) s)) ≡ named_by byte (numbers_of s)
    first_then e = rw (named-pair byte h (numbers_of s).numbers, first_read s (sym is ∙ e))

  -- it has no setpoints
  alone-pair : (numbers : List ℕ) → (named_pair byte numbers).setpoints ≡ []
  alone-pair [] = refl
  alone-pair (a ∷ []) = refl
  alone-pair (a ∷ b ∷ []) = pair-alone byte a b
  alone-pair (a ∷ b ∷ d ∷ more) = refl

  pub names-bare : (read : Read) {r : Reading} (held : List ℕ) → r ≡ reading_of (named_by byte read)
      → Names (named_by byte read) held r held
  names-bare read held e =
      let none : (named_by byte read).setpoints ≡ [] =
      rw (named-pair byte h read.numbers)
      (either (λ (x : Named). x.setpoints ≡ []) read.whole (alone-pair read.numbers) refl) in
      record { reading = e; place = rw none }
