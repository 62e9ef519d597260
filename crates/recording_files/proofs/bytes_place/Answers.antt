-- The bytes begin behind the lengths, in an empty file at once.
use native.Mathlib.Omega.{arith}
use Rattle.recording_files.specs.FileLaws.{bytes_in-empty, bytes_in_lem, file-holds}
use Rattle.recording_files.proofs.bytes_place.Goals as goal

pub returns-then-file-eq0 : goal.returns-then-file-eq0
returns-then-file-eq0 c = record { inside = omega arith; bytes = bytes_in-empty c.args.file.now c.requires c.if-file-eq0.true }

pub overflow_mul-result : goal.overflow_mul-result
overflow_mul-result c = omega (arith, file-holds c.args.file.now c.requires c.if-file-eq0.false, c.frames_in.ensures)

pub overflow_add-result : goal.overflow_add-result
overflow_add-result c = omega (arith, file-holds c.args.file.now c.requires c.if-file-eq0.false, c.frames_in.ensures)

pub returns : goal.returns
returns c =
    record {
      inside = omega (arith, file-holds c.args.file.now c.requires c.if-file-eq0.false, c.frames_in.ensures);
      bytes = bytes_in_lem c.args.file.now c.requires c.frames_in.ensures;
    }
