-- `log_search::latest_of_any` meets its contract: no entry behind `at` wrote any of the servers left, so what is found from there is the
-- latest.
use mathlib.Core.Path.{refl, ◌∙◌}
use native.Mathlib.Omega.{arith}
use Rattle.log_search.specs.TagsLaws.{any-within, any_here, any-before}
use Rattle.log_search.proofs.latest_of_any.Goals as goal

pub loop-at-init : goal.loop-at-init
loop-at-init c = (omega arith, refl)

pub returns-then-entry_mask-left-ne0 : goal.returns-then-entry_mask-left-ne0
returns-then-entry_mask-left-ne0 c =
    let a = c.args in
    any_here a.log.now a.left c.loop-at.at c.entry_mask.ensures c.if-entry_mask-left-ne0.true ∙ c.loop-at.invariant.1

pub loop-at-preserved : goal.loop-at-preserved
loop-at-preserved c =
    let a = c.args in
    let at = c.loop-at.at in (
      omega arith,
      any-before a.log.now a.left at c.entry_mask.ensures (omega arith) c.if-entry_mask-left-ne0.false
          ∙ c.loop-at.invariant.1,
    )

pub returns : goal.returns
returns c =
    let a = c.args in
    omega (arith, any-within a.log.now a.left c.loop-at.at, c.loop-at.invariant.1)
