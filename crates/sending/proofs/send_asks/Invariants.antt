-- `sending::send_asks` meets its contract: the loop has sent to the masked servers it has passed.
use Rattle.std.proofs.Common.{◌≡◌}
use Rattle.rules.specs.Begin.{sent_asks}
use Rattle.sending.proofs.send_asks.Given as goal

abbrev pub invariant-loop-server : goal.invariant-loop-server
invariant-loop-server l = l.links ≡ sent_asks l.client l.mask l.server l.initial.links
