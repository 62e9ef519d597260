-- `workload_run::put_step` meets its contract: four words copied are the row put.
use Rattle.std.proofs.Common.{◌∙◌}
use Rattle.workload_run.specs.Cases.{row_listed}
use Rattle.workload_run.proofs.put_step.Goals as goal

pub returns : goal.returns
returns c = row_listed c.args.list.now c.args.at c.args.picked c.requires (c.copy_from_slice.ensures.after ∙ c.step_words.ensures)
