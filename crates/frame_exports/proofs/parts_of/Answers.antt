-- `frame_exports::parts_of` meets its contract: a message has a head and a tail, and a refusal keeps its number in both.
use Rattle.std.proofs.Common.{sym, ap, ◌∙◌}
use Rattle.frames.specs.Results.{reading_by}
use Rattle.frame_exports.specs.Numbers.{parts_of, parts_same}
use Rattle.frame_exports.proofs.parts_of.Goals as goal

pub returns-in-Ok : goal.returns-in-Ok
returns-in-Ok c = parts_same c.both_parts.ensures c.head_of.ensures c.tail_of.ensures ∙ sym (ap (λ r. parts_of (reading_by r)) c.in-Ok.is)

pub returns-in-Err : goal.returns-in-Err
returns-in-Err c =
    parts_same c.both_parts-in-Err.ensures c.refused.ensures c.refused-in-Err.ensures
    ∙ sym (ap (λ r. parts_of (reading_by r)) c.in-Err.is)
