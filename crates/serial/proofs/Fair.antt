-- What one step may rely on, and what it must keep: by these alone a step is judged, whichever machine plays it and whatever its type.
use Prim.Native.Nat.{ℕ}
use mathlib.Core.Path.{◌≡◌}
use Rattle.tables.specs.Tables.{Tables, step_of}
use Rattle.soundness.specs.Facts.{Sound}
use Rattle.claim.specs.Steps.{Played}
use Rattle.claim.specs.History.{History}
use Rattle.claim.specs.Claim.{Answers}
use Rattle.claim.specs.Consequences.{number, accepted}
use Rattle.serial.proofs.Press.{view}
use Rattle.serial.proofs.Invariant.{Tied}
use Rattle.serial.proofs.Kept.{Kept}
use Rattle.serial.proofs.Budget.{Budget}

-- between two steps the tables are sound, tied to the history, and have room
pub record Standing (floor : ℕ → ℕ) (t : Tables) (h : History) : Type 0 where
  pub sound : Sound t
  pub tied : Tied floor (view t) h
  pub budget : Budget (view t)

-- a step keeps the tie and the budget, pays what it owes, answers a request, finds room, and counts where it is accepted; n steps were
-- accepted before
pub record Fair (floor : ℕ → ℕ) (h : History) (n : ℕ) (x : Played) : Type 0 where
  pub kept : Kept floor h x.event (view x.tables)
  pub budget : Budget (view x.tables)
  pub answers : Answers x
  pub room : number x.event ≡ 8 → ⊥
  pub step : step_of x.tables ≡ accepted x.event n
