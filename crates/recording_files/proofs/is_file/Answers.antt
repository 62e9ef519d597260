-- An empty file, one without its first four bytes, and the others by how many lengths they can have.
use Rattle.recording_files.specs.FileLaws.{file-empty, file_short, file_by-count}
use Rattle.recording_files.proofs.is_file.Goals as goal

pub returns-then-file-eq0 : goal.returns-then-file-eq0
returns-then-file-eq0 c = file-empty c.args.file.now c.if-file-eq0.true

pub returns-then-file-lt4 : goal.returns-then-file-lt4
returns-then-file-lt4 c = file_short c.args.file.now c.if-file-eq0.false c.if-file-lt4.true

pub returns : goal.returns
returns c = file_by-count c.args.file.now c.if-file-lt4.false c.word_at.ensures
