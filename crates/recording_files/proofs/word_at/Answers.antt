-- Four bytes, two by two.
use native.Mathlib.Omega.{arith}
use Rattle.recording_files.specs.File.{word_at}
use Rattle.recording_files.proofs.word_at.Goals as goal

pub returns : goal.returns
unfolding word_at
returns c =
    omega (
      arith,
      c.byte_at.ensures.0,
      c.byte_at-2.ensures.0,
      c.byte_at-3.ensures.0,
      c.byte_at-4.ensures.0,
    )
