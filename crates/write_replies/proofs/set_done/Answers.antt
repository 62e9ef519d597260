-- `write_replies::set_done` meets its contract: waiting or the second round, each a case law of `on_set_done`.
use Rattle.write_replies.specs.Cases.{set-waits, set-enters}
use Rattle.write_replies.proofs.set_done.Goals as goal

pub returns-then-is_waiting : goal.returns-then-is_waiting
returns-then-is_waiting c = λ keys values log writes reads. set-waits _ _ _ c.settle.ensures c.is_waiting.ensures c.if-is_waiting.true

pub returns : goal.returns
returns c =
    λ keys values log writes reads. set-enters _ _ _ c.settle.ensures c.is_waiting.ensures c.if-is_waiting.false
    c.send_entry.ensures.clients c.send_entry.ensures.links
