-- A file that is not cut has the lengths that are read.
use native.Mathlib.Omega.{arith}
use Rattle.recording_files.specs.FileLaws.{lengths_held}
use Rattle.recording_files.proofs.read_lengths.Goals as goal

pub store_lengths-requires : goal.store_lengths-requires
store_lengths-requires c =
    let l = lengths_held c.args.file.now c.requires.0 c.frames_in.ensures c.min-n.ensures in
    record { held = l.held; fits = omega (arith, l.fits, c.requires.1) }
