-- The message of the kind, with what is fixed in it.
use mathlib.Core.Path.{ap, ◌∙◌}
use lib.ListN.{get_or}
use Rattle.frames.specs.Messages.{message_at}
use Rattle.frames.proofs.message_of.Goals as goal

pub returns : goal.returns
returns c =
    let a = c.args in
    c.message_at.ensures ∙ ap (message_at (get_or a.fixed.now 0 0)) c.fixed_at-parts.ensures
