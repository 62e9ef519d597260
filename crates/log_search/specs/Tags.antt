-- The last entry that wrote any of several servers: from one such entry to the next goes the walk down the log for all of them.
use Rattle.std.specs.Prelude.{ℕ, ◌+◌, Bool, not, List, eqb}
use Rattle.std.specs.Int.Bits.{bit_and}
use Rattle.ranges.specs.Last.{last_below}
use Rattle.tables.specs.Layout.{entry_mask}

-- the entry at a tag wrote one of the servers of a mask
abbrev pub wrote_any : List ℕ → ℕ → ℕ → Bool
wrote_any log mask t = not (eqb (bit_and (entry_mask log t) mask) 0)

-- the last tag, at t or before it, whose entry did; 0 where none did
abbrev pub latest_of_any : List ℕ → ℕ → ℕ → ℕ
latest_of_any log mask t = last_below (wrote_any log mask) (t + 1)
