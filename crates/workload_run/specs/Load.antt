-- What playing a load answers.
use Rattle.std.specs.Prelude.{ℕ}

pub data Load : Type 0 where
  -- how many steps it gave, and the seed behind them
  Played : ℕ → ℕ → Load
  -- the number of the cause
  Refused : ℕ → Load
