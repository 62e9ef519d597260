-- The loop's invariant is ReadSoFar: the numbers read stand in front. Each took two bytes or more, so that `numbers_most` places are enough.
use Rattle.std.proofs.Common.{◌-◌, length}
use Rattle.schedule.specs.NumberLaws.{ReadSoFar}
use Rattle.line_reading.proofs.numbers_in.Given as goal

abbrev pub invariant-loop-at : goal.invariant-loop-at
invariant-loop-at l = ReadSoFar l.part l.initial.numbers l.numbers l.at l.count

abbrev pub decreases-loop-at : goal.decreases-loop-at
decreases-loop-at l = length l.part - l.at
