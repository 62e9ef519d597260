-- Two neighbouring accepted requests at different targets may come in either order: the one theorem, over every list of steps behind every
-- accepted opening.
use Rattle.std.specs.Prelude.{ℕ, ◌≡◌}
use Rattle.tables.specs.Tables.{Tables}
use Rattle.rules.specs.Answer.{Ok}
use Rattle.keeping.proofs.Opening.{opened-sound}
use Rattle.soundness.specs.Facts.{Sound}
use Rattle.claim.specs.Steps.{Step, opening, beginning-write, beginning-read, request, reply, losing, resending, requested, play}
use Rattle.claim.specs.Former.{MixedStep, today, former-opening, former-write, former-read, mixed}
use Rattle.serial.proofs.Openings.{play_starts, mixed_starts}
use Rattle.serial.proofs.Theorem.{play_fair, mixed_fair}
use Rattle.commutation.specs.Claim.{Swaps}
use Rattle.commutation.specs.Equal.{differ}
use Rattle.commutation.specs.Machines.{Delivering}

pub step_delivers : (step : Step) (t : Tables) (q i : ℕ) → (play step t).event ≡ requested q i Ok → (u : Tables) →
    play step u ≡ play (request q i) u
step_delivers (opening method k p setpoints) t q i e u = differ (cc)
step_delivers (beginning-write r mask badge setpoints) t q i e u = differ (cc)
step_delivers (beginning-read r mask) t q i e u = differ (cc)
step_delivers (request r j) t q i e u =
    let client : r ≡ q = cc in
    let target : j ≡ i = cc in
    rw (client, target)
step_delivers (reply r j) t q i e u = differ (cc)
step_delivers (losing r j) t q i e u = differ (cc)
step_delivers (resending r j) t q i e u = differ (cc)

-- and so it is where openings and begins go by the former rules
mixed_step_delivers : (step : MixedStep) (t : Tables) (q i : ℕ) → (mixed step t).event ≡ requested q i Ok → (u : Tables) →
    mixed step u ≡ play (request q i) u
mixed_step_delivers (today step) t q i e u = step_delivers step t q i e u
mixed_step_delivers (former-opening method k p setpoints) t q i e u = differ (cc)
mixed_step_delivers (former-write r mask badge setpoints) t q i e u = differ (cc)
mixed_step_delivers (former-read r mask) t q i e u = differ (cc)

pub mixed_delivers : Delivering mixed
mixed_delivers = record {
  starts = mixed_starts (λ h t. Sound t) opened-sound;
  sound = mixed_fair.sound;
  delivers = mixed_step_delivers;
}
