-- What comparing gives: the recordings agree; or the client, the target and the place on that link of the first difference; or the number
-- that refuses them.
use Rattle.std.specs.Prelude.{ℕ}

pub data Compared : Type 0 where
  Agree : Compared
  Differ : ℕ → ℕ → ℕ → Compared
  Refused : ℕ → Compared
