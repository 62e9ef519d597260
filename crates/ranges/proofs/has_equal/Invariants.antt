-- `ranges::has_equal` meets its contract: what the loop has found so far is whether one of the words before `at` is equal.
use Prim.Native.Nat.{◌≤◌}
use mathlib.Core.Path.{◌≡◌}
use Rattle.ranges.specs.All.{any_below}
use Rattle.ranges.specs.Words.{equal_from}
use Rattle.ranges.proofs.has_equal.Given as goal

abbrev pub invariant-loop-at : goal.invariant-loop-at
invariant-loop-at l = (l.at ≤ l.many) × (l.found ≡ any_below (equal_from l.words l.place l.word) l.at)
