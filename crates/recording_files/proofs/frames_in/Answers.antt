-- An empty file has no frame; another has its first four bytes.
use native.Mathlib.Omega.{arith}
use Rattle.recording_files.specs.FileLaws.{none_in_empty, file-holds}
use Rattle.recording_files.proofs.frames_in.Goals as goal

pub returns-then-file-eq0 : goal.returns-then-file-eq0
returns-then-file-eq0 c = none_in_empty c.args.file.now c.requires c.if-file-eq0.true

pub word_at-requires : goal.word_at-requires
word_at-requires c = omega (arith, file-holds c.args.file.now c.requires c.if-file-eq0.false)
