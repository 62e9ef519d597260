-- The number of the part is the one read on from the digits read so far.
use Rattle.std.proofs.Common.{◌≡◌, ◌≤◌, ◌<◌, length, drop}
use Rattle.schedule.specs.Numbers.{number_of, read_on}
use Rattle.line_reading.proofs.number_at.Given as goal

abbrev pub invariant-loop-size : goal.invariant-loop-size
invariant-loop-size l = (number_of l.part ≡ read_on l.value l.size (drop l.size l.part)) × ((l.value ≤ 4294967295) × (0 < length l.part))
