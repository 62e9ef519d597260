-- `choice::Choice::values_at` meets its contract: the walk found the tags; the masked servers that the loop has passed serve, and the rows
-- have their values. One that lacks its key ends it.
use Rattle.rules.specs.Reply.{received_in}
use Rattle.choice.specs.Values.{Taken}
use Rattle.choice.proofs.Choice.values_at.Given as goal

abbrev pub invariant-loop-server : goal.invariant-loop-server
invariant-loop-server l =
    let r = l.self.receipts in
    Taken r.keys.now l.self.values.now l.self.log.now l.self.mask (received_in r.clients.now r.client) l.tag l.server l.found.setpoints l.found.badges
