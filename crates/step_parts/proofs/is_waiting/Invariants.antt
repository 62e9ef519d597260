-- `step_parts::is_waiting` meets its contract: what is gathered of the links passed tells whether one of them holds anything.
use Rattle.step_parts.specs.Waiting.{Gathered}
use Rattle.step_parts.proofs.is_waiting.Given as goal

abbrev pub invariant-loop-target : goal.invariant-loop-target
invariant-loop-target l = Gathered l.links l.client l.target l.kinds
