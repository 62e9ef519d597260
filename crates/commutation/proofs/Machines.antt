-- Of specs/Machines: what cites a theorem there that a changed definition can make fail.
use Rattle.std.specs.Prelude.{ℕ, ◌≡◌, List, [], ◌∷◌}
use Rattle.std.proofs.Common.{ap, subst}
use Rattle.tables.specs.Tables.{Tables}
use Rattle.rules.specs.Answer.{Answer}
use Rattle.rules.specs.Answer.{Ok}
use Rattle.soundness.specs.Facts.{Sound}
use Rattle.claim.specs.Steps.{request, Event, requested, Machine, play, run, left_by}
use Rattle.serial.proofs.Openings.{Starts}
use Rattle.commutation.specs.Claim.{Swapped, Swaps}
use Rattle.commutation.proofs.Accepted.{requests_swap}
use Rattle.commutation.specs.Machines.{Delivering, answer_ok, as-played, kept}

module _ {S : Type 0} (machine : Machine S) (m : Delivering machine) where
  pub swaps : Swaps machine
  swaps first t method k p setpoints e steps a b x =
      let start = (machine first t).tables in
      let u = left_by (run machine steps start) start in
      let s : Sound start = subst (λ (y : Event). Starts (λ h v. Sound v) y start) e (m.starts first t) in
      let one = m.delivers a u x.client x.target x.one in
      let other = m.delivers b (machine a u).tables x.client' x.target' x.other in
      (as-played machine m) u a b x.client x.target x.client' x.target' one other
      (requests_swap x.client x.target x.client' x.target' u (kept machine m steps start s) x.apart
      (answer_ok x.client x.target _ (simp one at x.one))
      (answer_ok x.client' x.target' _ (simp (one, other) at x.other)))
