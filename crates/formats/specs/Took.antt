-- A field as it is read: what is wrong with it, its bits, and its value.
use Rattle.std.specs.Prelude.{ℕ}

pub record Took : Type 0 where
  pub fault : ℕ
  pub width : ℕ
  pub value : ℕ
