-- What is read of the two files is what they hold, or is refused as they are.
use Rattle.std.proofs.Common.{◌∙◌}
use Rattle.recording_files.proofs.FileLaws.{files-read}
use Rattle.recording_files.proofs.compare_files.Goals as goal

pub returns : goal.returns
returns c =
    let a = c.args in
    c.compare.ensures
    ∙ files-read a.file.now a.file2.now _ _ c.read_lengths-n.ensures c.read_lengths-n2.ensures
    c.bytes_place-at.ensures c.bytes_place-at2.ensures
