-- `holders::Receipts::search_holders` meets its contract: the loop has found the holders among the servers it has passed.
use Rattle.std.proofs.Common.{◌≡◌}
use Rattle.rules.specs.Reply.{received_in}
use Rattle.rules.specs.Choice.{holds_key}
use Rattle.keys.specs.Bits.{gathered}
use Rattle.holders.proofs.Receipts.search_holders.Given as goal

abbrev pub invariant-loop-server : goal.invariant-loop-server
invariant-loop-server l = l.found ≡ gathered (holds_key l.self.keys.now (received_in l.self.clients.now l.self.client) l.key) l.server
