-- `holders::Receipts::mark_servers` meets its contract: the loop has marked the masked servers it has passed.
use Rattle.std.proofs.Common.{◌≡◌}
use Rattle.rules.specs.Reply.{received_in}
use Rattle.holder_slots.specs.Holders.{mark_servers}
use Rattle.holders.proofs.Receipts.mark_servers.Given as goal

abbrev pub invariant-loop-server : goal.invariant-loop-server
invariant-loop-server l = l.holders ≡ mark_servers l.self.keys.now l.mask (received_in l.self.clients.now l.self.client) l.server l.initial.holders
