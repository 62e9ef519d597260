-- `opening::open_versions` meets its contract: the servers that the loop has passed have the opening's version.
use Rattle.std.proofs.Common.{◌≡◌}
use Rattle.ranges.specs.Turns.{turns}
use Rattle.rules.specs.Open.{open_key, open_value}
use Rattle.opening.proofs.open_versions.Given as goal

abbrev pub invariant-loop-server : goal.invariant-loop-server
invariant-loop-server l =
    record {
      keys : l.keys ≡ turns open_key l.server l.initial.keys;
      values : l.values ≡ turns (open_value l.setpoints) l.server l.initial.values;
    }
