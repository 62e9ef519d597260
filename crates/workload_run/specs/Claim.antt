-- E2: "It is shown that every step it gives is accepted and that it stops early only then", of a whole load.
use Rattle.std.specs.Prelude.{ℕ, ◌+◌, ◌<◌, ◌≡◌}
use Rattle.soundness.specs.Facts.{Sound}
use Rattle.workload.specs.Claim.{Nothing}
use Rattle.workload_run.specs.Run.{Running, load}

-- for every load from sound tables, whatever it has given before
pub record LoadClaim (x : Running) : Type 0 where
  -- it gives no more than is wanted, and fewer only where nothing at all is accepted any more
  pub most : (n : ℕ) → (load n x).progress.given < x.progress.given + n + 1
  pub short : (n : ℕ) → (load n x).progress.given < x.progress.given + n → Nothing (load n x).tables
  -- a load in parts is the whole
  pub parts : (m n : ℕ) → load (m + n) x ≡ load n (load m x)
  -- and it leaves sound tables
  pub sound : (n : ℕ) → Sound (load n x).tables
