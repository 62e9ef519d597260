-- What writing the values of a frame does: the number that refuses it, or 0 and the frame's length in bytes.
use Rattle.std.specs.Prelude.{ℕ}

pub record Wrote : Type 0 where
  pub fault : ℕ
  pub length : ℕ
