-- In each arm the message is its variant, and the list is the definition's clause.
use mathlib.Core.Path.{sym, ap}
use Rattle.frames.specs.Messages.{fixed_of}
use Rattle.frames.proofs.fixed_of.Goals as goal

pub returns-in-Set : goal.returns-in-Set
returns-in-Set c = sym (ap fixed_of c.in-Set.is)

pub returns-in-SetDone : goal.returns-in-SetDone
returns-in-SetDone c = sym (ap fixed_of c.in-SetDone.is)

pub returns-in-Enter : goal.returns-in-Enter
returns-in-Enter c = sym (ap fixed_of c.in-Enter.is)

pub returns-in-Entered : goal.returns-in-Entered
returns-in-Entered c = sym (ap fixed_of c.in-Entered.is)

pub returns-in-WhichKeys : goal.returns-in-WhichKeys
returns-in-WhichKeys c = sym (ap fixed_of c.in-WhichKeys.is)

pub returns-in-Keys : goal.returns-in-Keys
returns-in-Keys c = sym (ap fixed_of c.in-Keys.is)

pub returns-in-Get : goal.returns-in-Get
returns-in-Get c = sym (ap fixed_of c.in-Get.is)

pub returns-in-Got : goal.returns-in-Got
returns-in-Got c = sym (ap fixed_of c.in-Got.is)

pub returns-in-GetAll : goal.returns-in-GetAll
returns-in-GetAll c = sym (ap fixed_of c.in-GetAll.is)

pub returns-in-All : goal.returns-in-All
returns-in-All c = rw c.less_one.ensures (sym (ap fixed_of c.in-All.is))

pub returns-in-GetLog : goal.returns-in-GetLog
returns-in-GetLog c = sym (ap fixed_of c.in-GetLog.is)

pub returns-in-Log : goal.returns-in-Log
returns-in-Log c = rw c.less_one-in-Log.ensures (sym (ap fixed_of c.in-Log.is))
