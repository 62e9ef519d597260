-- `sending::send_sets` meets its contract: the loop has sent to the masked servers it has passed.
use Rattle.std.proofs.Common.{◌≡◌}
use Rattle.rules.specs.Begin.{sent_sets}
use Rattle.sending.proofs.send_sets.Given as goal

abbrev pub invariant-loop-server : goal.invariant-loop-server
invariant-loop-server l = l.links ≡ sent_sets l.client l.mask l.key l.badge l.setpoints l.server l.initial.links
