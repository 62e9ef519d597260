-- A load is as long as wanted, or nothing is accepted any more.
use Prim.Native.Nat.{ℕ, zero, suc, ◌+◌, ◌<◌}
use Rattle.std.specs.Prelude.{◌≡◌}
use Rattle.std.proofs.Math.Path.{refl, ap}
use Rattle.std.proofs.Common.{◌∙◌, arith, add-zero, add-suc}
use Rattle.ranges.specs.Turns.{turns}
use Rattle.soundness.specs.Facts.{Sound}
use Rattle.workload.specs.Next.{Next}
use Rattle.workload.specs.Next as next
use Rattle.workload.specs.Load.{next_step}
use Rattle.workload.specs.Claim.{Nothing}
use Rattle.workload.specs.ClaimLaws.{sound-given}
use Rattle.workload.proofs.ClaimLaws.{theorem}
use Rattle.workload_run.specs.Run.{Running, running, gone_on, listed_next, after_pick, pick_one, take_step, load}
use Rattle.workload_run.specs.RunLaws.{pick-sound}
use Rattle.workload_run.specs.Claim.{LoadClaim}

-- a pick gives a step more, or all stays as it is and nothing is accepted
module _ (x : Running) (s : Sound x.tables) where
  abbrev Ended : Type 0
  Ended = (pick_one x ≡ x) × Nothing x.tables

  by_next : {C : Type 0} (n : Next) → next_step x.tables x.progress.seed ≡ n →
      ((gone_on n x.progress).given ≡ x.progress.given + 1 → C) →
      ((running (gone_on n x.progress) (listed_next n x.progress.given x.list) (after_pick n x.tables) ≡ x) × Nothing
      x.tables → C) → C
  by_next (next.Refused n) e more ends = absurd (sound-given x.tables x.progress.seed s n e)
  by_next next.End e more ends = ends (refl, theorem.nothing x.tables x.progress.seed s e)
  by_next (next.Given seed y) e more ends = more refl

  by-ended : {C : Type 0} → ((pick_one x).progress.given ≡ x.progress.given + 1 → C) → (Ended → C) → C
  unfolding pick_one take_step
  by-ended more ends = by_next (next_step x.tables x.progress.seed) refl more ends

module _ (x : Running) (s : Sound x.tables) where
  sounds : (n : ℕ) → Sound (load n x).tables
  unfolding turns
  sounds zero = s
  sounds (suc n) = pick-sound (load n x) (sounds n)

  -- as long as wanted, or ended
  whole-or-ended : {C : Type 0} (n : ℕ) → ((load n x).progress.given ≡ x.progress.given + n → C) →
      (((load n x).progress.given < x.progress.given + n) × ((pick_one (load n x) ≡ load n x) × Nothing (load n x).tables) → C) → C
  unfolding turns
  whole-or-ended zero whole ended = whole (omega arith)
  whole-or-ended (suc n) whole ended =
      whole-or-ended n
      (λ w. by-ended (load n x) (sounds n)
      (λ m. whole (omega (arith, m, w)))
      (λ y. ended (rw y.0 (omega (arith, w)), rw y.0 y)))
      (λ y. ended (rw y.1.0 (omega (arith, y.0)), rw y.1.0 y.1))

  in_parts : (m n : ℕ) → load (m + n) x ≡ load n (load m x)
  unfolding turns
  in_parts m zero = ap (λ (i : ℕ). load i x) (add-zero m)
  in_parts m (suc n) = ap (λ (i : ℕ). load i x) (add-suc m n) ∙ ap (λ (y : Running). pick_one y) (in_parts m n)

  pub claim : LoadClaim x
  claim =
      record {
        most = λ n. whole-or-ended n (λ w. omega (arith, w)) (λ y. omega (arith, y.0));
        short = λ n h. whole-or-ended n (λ w. let z : ⊥ = omega (arith, w, h) in absurd z) (λ y. y.1.1);
        parts = in_parts;
        sound = sounds;
      }
