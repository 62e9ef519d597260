-- The place of the first difference on a link.
use Rattle.std.specs.Prelude.{ℕ}

pub data Place : Type 0 where
  Nowhere : Place
  At : ℕ → Place
