-- `holders::Receipts::mark_servers` meets its contract: a turn of the loop is a turn of `turns`, taken where the mask has the server.
use Rattle.ranges.specs.Turns.{turns-none, turns_more}
use Rattle.std.proofs.Common.{rules}
use Rattle.holders.proofs.Receipts.mark_servers.Goals as goal
use Rattle.holders.proofs.Receipts.mark_servers.Goals.{then-has_server, else-has_server}

pub loop-server-init : goal.loop-server-init
loop-server-init c = turns-none _ _

pub loop-server-preserved : goal.loop-server-preserved
loop-server-preserved c =
    turns_more _ _ _ c.loop-server.invariant
    (elim c.if-has_server.branch [
      | then-has_server w ↦ search rules
      | else-has_server w ↦ search rules
    ])
