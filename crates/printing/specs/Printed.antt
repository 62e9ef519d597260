-- What a printing function promises: the text stands in the lent space from a place on, and all other bytes are as they were.
use Rattle.std.specs.Prelude.{ℕ, ◌+◌, ◌≡◌, List, ◌++◌, length, take, drop}

-- the space with a text in it from a place on
abbrev pub written : List ℕ → ℕ → List ℕ → List ℕ
written out at text = take at out ++ (text ++ drop (at + length text) out)

pub record Printed (out : List ℕ) (at : ℕ) (text : List ℕ) (next : ℕ) (left : List ℕ) : Type 0 where
  pub end : next ≡ at + length text
  pub space : left ≡ written out at text
