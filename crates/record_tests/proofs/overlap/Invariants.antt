-- `record_tests::overlap` meets its contract: `found` counts the WRITEs passed that overlap.
use Rattle.std.proofs.Common.{◌≡◌, ◌≤◌}
use Rattle.ranges.specs.Sum.{count_below}
use Rattle.record_tests.specs.Records.{overlaps}
use Rattle.record_tests.proofs.overlap.Given as goal

abbrev pub invariant-loop-place : goal.invariant-loop-place
invariant-loop-place l = (l.place ≤ l.begun) × (l.found ≡ count_below (overlaps l.writes l.begin l.end) l.place)
