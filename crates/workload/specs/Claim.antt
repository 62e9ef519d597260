-- E2: "It is shown that every step it gives is accepted and that it stops early only then."
use Rattle.std.specs.Prelude.{ℕ, ◌<◌, ◌≡◌, true, false, List}
use Rattle.tables.specs.Tables.{Tables, clients_of}
use Rattle.soundness.specs.Facts.{Sound}
use Rattle.refusals.specs.Steps.{begin_write, begin_read, deliver_request, deliver_reply}
use Rattle.workload.specs.declared.LoadStep.{LoadStep}
use Rattle.workload.specs.Next.{Given, End}
use Rattle.workload.specs.Load.{numbered, numbered_count, acceptable, next_step}
use Rattle.workload.specs.AcceptLaws.{is_fine, is_fine_arrival}

-- nothing is accepted: no begin of any mask, and no delivery whatever
pub record Nothing (t : Tables) : Type 0 where
  pub writes : (q mask badge : ℕ) (setpoints : List ℕ) → is_fine (begin_write q mask badge setpoints t) ≡ false
  pub reads : (q mask : ℕ) → is_fine (begin_read q mask t) ≡ false
  pub requests : (q i : ℕ) → is_fine (deliver_request q i t) ≡ false
  pub replies : (q i : ℕ) → is_fine_arrival (deliver_reply q i t) ≡ false

pub record Claim : Type 0 where
  -- a step that is given is accepted, and it is one of the numbered ones
  pub given : (t : Tables) (seed seed' : ℕ) (s : LoadStep) → next_step t seed ≡ Given seed' s → acceptable t s ≡ true
  -- none is given only where none of the numbered steps is acceptable
  pub none : (t : Tables) (seed : ℕ) → next_step t seed ≡ End → (n : ℕ) → n < numbered_count (clients_of t) →
      acceptable t (numbered t n) ≡ false
  -- and there nothing is accepted
  pub nothing : (t : Tables) (seed : ℕ) → Sound t → next_step t seed ≡ End → Nothing t
