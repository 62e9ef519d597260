-- Before each turn all values so far are right, and the state is the one behind them.
use Rattle.std.proofs.Common.{◌≡◌}
use Rattle.format_writing.specs.Packing.{Tried}
use Rattle.format_writing.proofs.fixed_right.Given as goal

abbrev pub invariant-loop-place : goal.invariant-loop-place
invariant-loop-place l = Tried l.fixed l.state × (l.state.place ≡ l.place)
