-- `record_tests::count_tagged` meets its contract: `found` counts the WRITEs passed that have a tag.
use Rattle.std.proofs.Common.{◌≡◌, ◌≤◌, not}
use Rattle.ranges.specs.Sum.{count_below}
use Rattle.record_tests.specs.Records.{has_tag}
use Rattle.record_tests.proofs.count_tagged.Given as goal

abbrev pub invariant-loop-place : goal.invariant-loop-place
invariant-loop-place l = (l.place ≤ l.begun) × (l.found ≡ count_below (λ k. not (has_tag l.writes 0 k)) l.place)
