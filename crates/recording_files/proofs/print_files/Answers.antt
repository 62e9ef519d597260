-- The text of the answer, and how many bytes it takes.
use native.Mathlib.Omega.{arith}
use Rattle.recording_files.specs.FileLaws.{counts_of}
use Rattle.recording_files.proofs.NumberLaws.{compared-numbered}
use Rattle.recording_files.proofs.print_files.Goals as goal

pub returns : goal.returns
returns c = (
  rw (compared-numbered c.compare_files-answer.result c.numbered.ensures, c.compare_files-answer.ensures) at c.print_compared.ensures.0,
  counts_of _
      (omega (arith, c.print_compared.ensures.1, c.print_compared.auto.out, c.requires.2)),
)
