-- What reading finds: the number that refuses the bytes, or 0, how many values there are and the fixed ones.
use Rattle.std.specs.Prelude.{ℕ, List}

pub record Scan : Type 0 where
  pub fault : ℕ
  pub fields : ℕ
  pub fixed : List ℕ
