-- In each arm the message is its variant, and the digits are the definition's clause.
use mathlib.Core.Path.{sym, ap, ◌∙◌}
use Rattle.frame_exports.specs.Numbers.{head_of}
use Rattle.frame_exports.proofs.head_of.Goals as goal

pub returns-in-Set : goal.returns-in-Set
returns-in-Set c = c.digits.ensures ∙ sym (ap head_of c.in-Set.is)

pub returns-in-SetDone : goal.returns-in-SetDone
returns-in-SetDone c = c.digits-in-SetDone.ensures ∙ sym (ap head_of c.in-SetDone.is)

pub returns-in-Enter : goal.returns-in-Enter
returns-in-Enter c = c.digits-in-Enter.ensures ∙ sym (ap head_of c.in-Enter.is)

pub returns-in-Entered : goal.returns-in-Entered
returns-in-Entered c = c.digits-in-Entered.ensures ∙ sym (ap head_of c.in-Entered.is)

pub returns-in-WhichKeys : goal.returns-in-WhichKeys
returns-in-WhichKeys c = c.digits-in-WhichKeys.ensures ∙ sym (ap head_of c.in-WhichKeys.is)

pub returns-in-Keys : goal.returns-in-Keys
returns-in-Keys c = c.digits-in-Keys.ensures ∙ sym (ap head_of c.in-Keys.is)

pub returns-in-Get : goal.returns-in-Get
returns-in-Get c = c.digits-in-Get.ensures ∙ sym (ap head_of c.in-Get.is)

pub returns-in-Got : goal.returns-in-Got
returns-in-Got c = c.digits-in-Got.ensures ∙ sym (ap head_of c.in-Got.is)

pub returns-in-GetAll : goal.returns-in-GetAll
returns-in-GetAll c = c.digits-in-GetAll.ensures ∙ sym (ap head_of c.in-GetAll.is)

pub returns-in-All : goal.returns-in-All
returns-in-All c = c.digits-in-All.ensures ∙ sym (ap head_of c.in-All.is)

pub returns-in-GetLog : goal.returns-in-GetLog
returns-in-GetLog c = c.digits-in-GetLog.ensures ∙ sym (ap head_of c.in-GetLog.is)

pub returns-in-Log : goal.returns-in-Log
returns-in-Log c = c.digits-in-Log.ensures ∙ sym (ap head_of c.in-Log.is)
