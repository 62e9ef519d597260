-- `step_parts::is_waiting` meets its contract: what is gathered of the links passed tells whether one of them holds anything.
use Rattle.std.proofs.Common.{rules}
use Rattle.step_parts.specs.Waiting.{gathered_none, gathered-more}
use Rattle.step_parts.proofs.is_waiting.Goals as goal

pub loop-target-init : goal.loop-target-init
loop-target-init c = gathered_none _ _

pub loop-target-preserved : goal.loop-target-preserved
loop-target-preserved c = gathered-more _ _ _ _ c.loop-target.invariant c.requires.1 (search rules) c.link_word-kinds.ensures
