-- `opening::hold_one` meets its contract: the servers that the loop has passed hold one version.
use Rattle.std.proofs.Common.{◌≡◌}
use Rattle.ranges.specs.Turns.{turns}
use Rattle.rules.specs.Open.{hold_one}
use Rattle.opening.proofs.hold_one.Given as goal

abbrev pub invariant-loop-server : goal.invariant-loop-server
invariant-loop-server l = l.counts ≡ turns hold_one l.server l.initial.counts
