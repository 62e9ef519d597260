-- `record_tests::count_finished` meets its contract: `found` counts the READs passed that are finished.
use Rattle.std.proofs.Common.{◌≡◌, ◌≤◌}
use Rattle.ranges.specs.Sum.{count_below}
use Rattle.record_tests.specs.Records.{is_finished}
use Rattle.record_tests.proofs.count_finished.Given as goal

abbrev pub invariant-loop-place : goal.invariant-loop-place
invariant-loop-place l = (l.place ≤ l.begun) × (l.found ≡ count_below (is_finished l.reads) l.place)
