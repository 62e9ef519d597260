-- A refusal keeps its number.
use Rattle.std.proofs.Common.{sym, ap, ◌∙◌}
use Rattle.frames.specs.Results.{length_by}
use Rattle.frame_exports.specs.Numbers.{written_number}
use Rattle.frame_exports.proofs.written_number.Goals as goal

pub returns-in-Err : goal.returns-in-Err
returns-in-Err c = c.refused.ensures ∙ sym (ap (λ r. written_number (length_by r)) c.in-Err.is)
