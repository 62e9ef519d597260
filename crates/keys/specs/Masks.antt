-- "A mask has 16 bits; bit i (worth 2^i) is station i." A station is a server here.
use Rattle.std.specs.Prelude.{ℕ, ◌/◌, ◌%◌, ◌^◌, ◌<◌, Bool, not, ◌&&◌, eqb, ltb}
use Rattle.ranges.specs.Sum.{count_below}

abbrev pub has_server : ℕ → ℕ → Bool
has_server mask i = eqb (mask / 2 ^ i % 2) 1

-- how many of the 16 servers a mask has
abbrev pub servers_in : ℕ → ℕ
servers_in mask = count_below (has_server mask) 16

-- not zero, and no server at k or beyond: "mask zero or beyond k" is refused
abbrev pub mask_within : ℕ → ℕ → Bool
mask_within mask k = not (eqb mask 0) && ltb mask (2 ^ k)

-- What "within" means: not zero, and below 2^k.
pub record Within (m k : ℕ) : Type 0 where
  pub some : 0 < m
  pub below : m < 2 ^ k
