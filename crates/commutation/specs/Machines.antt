-- Any machine whose accepted requests are the store's has both orders: the one induction over lists of steps.
use Rattle.std.specs.Prelude.{ℕ, ◌≡◌, List, [], ◌∷◌}
use Rattle.std.proofs.Common.{ap, subst}
use Rattle.tables.specs.Tables.{Tables}
use Rattle.rules.specs.Answer.{Answer}
use Rattle.rules.specs.Answer.{Ok}
use Rattle.soundness.specs.Facts.{Sound}
use Rattle.claim.specs.Steps.{request, Event, requested, Machine, play, run, left_by}
use Rattle.serial.proofs.Openings.{Starts}
use Rattle.commutation.specs.Claim.{Swapped, Swaps}

-- Its accepted openings leave sound tables, its steps keep them so, and a step that had a request accepted is that delivery on any tables.
pub record Delivering {S : Type 0} (machine : Machine S) : Type 0 where
  pub starts : (step : S) (t : Tables) → Starts (λ h u. Sound u) (machine step t).event (machine step t).tables
  pub sound : (step : S) (t : Tables) → Sound t → Sound (machine step t).tables
  pub delivers : (step : S) (t : Tables) (q i : ℕ) → (machine step t).event ≡ requested q i Ok →
      (u : Tables) → machine step u ≡ play (request q i) u

pub answer_ok : (q i : ℕ) (answer : Answer) → requested q i answer ≡ requested q i Ok → answer ≡ Ok
answer_ok q i answer e = cc

module _ {S : Type 0} (machine : Machine S) (m : Delivering machine) where
  pub kept : (steps : List S) (t : Tables) → Sound t → Sound (left_by (run machine steps t) t)
  kept [] t s = s
  kept (step ∷ steps) t s = kept steps (machine step t).tables (m.sound step t s)

  -- two steps of it that are the store's
  pub as-played : (t : Tables) (a b : S) (q i r j : ℕ) → ((u : Tables) → machine a u ≡ play (request q i) u) →
      ((u : Tables) → machine b u ≡ play (request r j) u) → Swapped play t (request q i) (request r j) → Swapped machine t a b
  as-played t a b q i r j one other x =
      let equal : (machine a (machine b t).tables).tables ≡ (machine b (machine a t).tables).tables = simp (one, other) x.tables in
      record {
        sooner = simp (one, other) x.sooner;
        later = simp (one, other) x.later;
        tables = equal;
        behind = λ rest. ap (run machine rest) equal;
      }
