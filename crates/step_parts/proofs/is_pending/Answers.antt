-- `step_parts::is_pending` meets its contract: the chain over the links is the definition's fold.
use Rattle.std.proofs.Common.{rules, tests, refl}
use Rattle.ranges.specs.Chains.{any_ran}
use Rattle.step_parts.proofs.is_pending.Goals as goal

pub returns : goal.returns
returns c = any_ran _ _ _ _ _ c.any.result c.any.ensures.ran refl refl (λ x b q k. search (rules, tests))
