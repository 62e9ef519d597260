-- `opening::hold_one` meets its contract: a turn of the loop is a turn of `turns`.
use Rattle.ranges.specs.Turns.{turns-none, turns_more}
use Rattle.opening.proofs.hold_one.Goals as goal

pub loop-server-init : goal.loop-server-init
loop-server-init c = turns-none _ _

pub loop-server-preserved : goal.loop-server-preserved
loop-server-preserved c = turns_more _ _ _ c.loop-server.invariant c.put_count.ensures
