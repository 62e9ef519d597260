-- In each arm the message is its variant, and the pair is the definition's clause.
use mathlib.Core.Path.{sym, ap, ◌∙◌}
use Rattle.frame_exports.specs.Numbers.{tail_of}
use Rattle.frame_exports.proofs.tail_of.Goals as goal

pub returns-in-Set : goal.returns-in-Set
returns-in-Set c = c.pair.ensures ∙ sym (ap tail_of c.in-Set.is)

pub returns-in-Enter : goal.returns-in-Enter
returns-in-Enter c = c.pair-in-Enter.ensures ∙ sym (ap tail_of c.in-Enter.is)

pub returns-in-Keys : goal.returns-in-Keys
returns-in-Keys c = c.pair-in-Keys.ensures ∙ sym (ap tail_of c.in-Keys.is)

pub returns-in-Got : goal.returns-in-Got
returns-in-Got c = c.pair-in-Got.ensures ∙ sym (ap tail_of c.in-Got.is)

pub returns-in-All : goal.returns-in-All
returns-in-All c = c.pair-in-All.ensures ∙ sym (ap tail_of c.in-All.is)

pub returns-in-Log : goal.returns-in-Log
returns-in-Log c = c.pair-in-Log.ensures ∙ sym (ap tail_of c.in-Log.is)
