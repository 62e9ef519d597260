-- Of specs/ReadyLaws: what cites a theorem there that a changed definition can make fail.
use Rattle.std.specs.Prelude.{ℕ, ◌≡◌}
use Rattle.std.proofs.Common.{◌∙◌}
use Rattle.tables.specs.Tables.{Tables, clients_of}
use Rattle.soundness.specs.Facts.{Sound, facts-sound}
use Rattle.workload.specs.Next.{Next}
use Rattle.workload.specs.Passing.{passing}
use Rattle.workload.specs.PassingLaws.{passing-same}
use Rattle.workload.specs.Load.{numbered, numbered_count, acceptable, picked_from, next_step}
use Rattle.workload.specs.Accepts.{accepts}
use Rattle.workload.specs.AcceptLaws.{accepts-told}

module _ (t : Tables) (s : Sound t) where
  pub picked_next : (seed : ℕ) {r : Next} → r ≡ picked_from (passing (accepts t) (numbered_count (clients_of t))) t seed →
      r ≡ next_step t seed
  unfolding next_step
  picked_next seed e =
      let same = passing-same (accepts t) (λ n. acceptable t (numbered t n)) (accepts-told t s) in
      rw (facts-sound t s) (e ∙ rw (same (numbered_count (clients_of t))))
