-- The first i lengths are stored.
use Rattle.ranges.specs.LaidLaws.{Laying}
use Rattle.recording_files.specs.File.{length_at}
use Rattle.recording_files.proofs.store_lengths.Given as goal

abbrev pub invariant-loop-i : goal.invariant-loop-i
invariant-loop-i l = Laying (length_at l.file) l.n l.initial.lengths l.i l.lengths
