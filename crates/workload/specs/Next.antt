-- What a pick gives.
use Rattle.std.specs.Prelude.{ℕ}
use Rattle.workload.specs.declared.LoadStep.{LoadStep}

pub data Next : Type 0 where
  -- the number of the cause, where the pick is refused: 2, the tables are not sound
  Refused : ℕ → Next
  -- no step is acceptable
  End : Next
  -- the next seed, and the step
  Given : ℕ → LoadStep → Next
