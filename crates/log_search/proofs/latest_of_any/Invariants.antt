-- `log_search::latest_of_any` meets its contract: no entry behind `at` wrote any of the servers left, so what is found from there is the
-- latest.
use Prim.Native.Nat.{◌≤◌}
use mathlib.Core.Path.{◌≡◌}
use Rattle.log_search.specs.Tags.{latest_of_any}
use Rattle.log_search.proofs.latest_of_any.Given as goal

abbrev pub invariant-loop-at : goal.invariant-loop-at
invariant-loop-at l = (l.at ≤ l.tag) × (latest_of_any l.log l.left l.at ≡ latest_of_any l.log l.left l.tag)
