-- What reading a frame gives: the message, or the number that refuses the bytes.
use Rattle.std.specs.Prelude.{ℕ}
use Rattle.frames.specs.declared.Message.{Message}

pub data Reading : Type 0 where
  Read : Message → Reading
  Refused : ℕ → Reading
