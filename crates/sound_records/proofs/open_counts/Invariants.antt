-- `sound_records::open_counts` meets its contract: the records before `place` are counted.
use Prim.Native.Nat.{◌≤◌}
use Rattle.sound_records.specs.Opens.{OpenCounts}
use Rattle.sound_records.proofs.open_counts.Given as goal

abbrev pub invariant-loop-place : goal.invariant-loop-place
invariant-loop-place l = (l.place ≤ l.begun) × OpenCounts l.records l.place l.found
