-- What came is within the space.
use Rattle.std.proofs.Common.{length, ◌-◌, ◌≤◌}
use Rattle.window.proofs.read_full.Given as goal

abbrev pub invariant-loop-held : goal.invariant-loop-held
invariant-loop-held g l = l.held ≤ length l.space

abbrev pub decreases-loop-held : goal.decreases-loop-held
decreases-loop-held g l = length l.initial.space - l.held
