-- Of specs/Theorem: what cites a theorem there that a changed definition can make fail.
use Rattle.std.specs.Prelude.{ℕ, ◌≡◌}
use Rattle.tables.specs.Tables.{Tables}
use Rattle.rules.specs.Answer.{Ok}
use Rattle.keeping.proofs.Opening.{opened-sound}
use Rattle.soundness.specs.Facts.{Sound}
use Rattle.claim.specs.Steps.{Step, opening, beginning-write, beginning-read, request, reply, losing, resending, requested, play}
use Rattle.claim.specs.Former.{MixedStep, today, former-opening, former-write, former-read, mixed}
use Rattle.serial.proofs.Openings.{play_starts, mixed_starts}
use Rattle.serial.proofs.Theorem.{play_fair, mixed_fair}
use Rattle.commutation.specs.Claim.{Swaps}
use Rattle.commutation.specs.Equal.{differ}
use Rattle.commutation.proofs.Machines.{swaps}
use Rattle.commutation.specs.Machines.{Delivering}
use Rattle.commutation.specs.Theorem.{mixed_delivers, step_delivers}

pub play_delivers : Delivering play
play_delivers = record { starts = play_starts (λ h t. Sound t) opened-sound; sound = play_fair.sound; delivers = step_delivers }

-- Either order is accepted, and leaves equal tables.
pub theorem : Swaps play
theorem = swaps play play_delivers

pub former : Swaps mixed
former = swaps mixed mixed_delivers
