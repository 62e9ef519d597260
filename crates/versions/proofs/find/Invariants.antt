-- Where as many places are done, none of them bears the key (`Sought`).
use Rattle.ranges.specs.FirstLaws.{Sought}
use Rattle.version_records.specs.Table.{bears_at}
use Rattle.versions.proofs.find.Given as goal

abbrev pub invariant-loop-place : goal.invariant-loop-place
invariant-loop-place l = Sought (bears_at l.versions l.key) l.readable l.place
