-- `opening::open_versions` meets its contract: a turn of the loop is a turn of `turns`, of keys and of values.
use Rattle.ranges.specs.Turns.{turns-none, turns_more}
use Rattle.opening.proofs.open_versions.Goals as goal

pub loop-server-init : goal.loop-server-init
loop-server-init c = record { keys = turns-none _ _; values = turns-none _ _ }

pub loop-server-preserved : goal.loop-server-preserved
loop-server-preserved c =
    let v = c.loop-server.invariant in record {
      keys = turns_more _ _ _ v.keys c.put_version.ensures.keys;
      values = turns_more _ _ _ v.values c.put_version.ensures.values;
    }
