-- What the functions ask of a field: at most 32 bits, within the bytes.
use Rattle.std.specs.Prelude.{ℕ, ◌+◌, ◌*◌, ◌≤◌, ◌<◌, List, length}

pub record Inside (bytes : List ℕ) (at width : ℕ) : Type 0 where
  pub narrow : width ≤ 32
  pub inside : at + width ≤ 8 * length bytes

-- of a part of a byte
pub record InByte (bytes : List ℕ) (place width behind : ℕ) : Type 0 where
  pub narrow : width + behind ≤ 8
  pub inside : 8 * place + width ≤ 8 * length bytes

-- of a field's first part and the n whole bytes behind it
pub record Across (bytes : List ℕ) (place free n : ℕ) : Type 0 where
  pub part : free ≤ 8
  pub narrow : free + 8 * n ≤ 32
  pub inside : place + n < length bytes
