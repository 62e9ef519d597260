-- What the writer answers, as a length or a number.
use Rattle.std.proofs.Common.{ap, ◌∙◌}
use Rattle.frames.specs.Answers.{wrote-length, written_by}
use Rattle.frames.proofs.send.Goals as goal

pub returns : goal.returns
returns c = let d = c.write_values.ensures in (wrote-length _ ∙ ap written_by d.0, d.1)
