-- `workload_exports::load_next_step` meets its contract: the numbers are the pick's.
use Rattle.std.proofs.Common.{◌∙◌}
use Rattle.workload_exports.proofs.load_next_step.Goals as goal

pub returns : goal.returns
returns c = c.of_pick.ensures ∙ rw c.next_step.ensures
