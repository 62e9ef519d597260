-- What writing a frame gives: its length in bytes, or the number that refuses the message.
use Rattle.std.specs.Prelude.{ℕ}

pub data Written : Type 0 where
  Length : ℕ → Written
  Refused : ℕ → Written
