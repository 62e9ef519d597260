-- `refusal_tests::delivery_fault` meets its contract: each way out is one value of the tests in their order.
use mathlib.Core.Path.{sym, ◌∙◌}
use Rattle.ranges.specs.Tests.{most, above, least, under}
use Rattle.refusal_tests.proofs.delivery_fault.Goals as goal

pub returns-then-count_at-client : goal.returns-then-count_at-client
returns-then-count_at-client c = λ clients links keys values log writes reads. rw (most c.count_at.ensures c.if-count_at-client.true)

pub returns-then-not-is_target : goal.returns-then-not-is_target
returns-then-not-is_target c =
    λ clients links keys values log writes reads.
    rw (above c.count_at.ensures c.if-count_at-client.false, ← c.count_at-2.ensures, sym c.is_target.ensures ∙ c.if-not-is_target.true)

pub returns-then-count_at-ge-LAST_STEP : goal.returns-then-count_at-ge-LAST_STEP
returns-then-count_at-ge-LAST_STEP c =
    λ clients links keys values log writes reads.
    rw (
      above c.count_at.ensures c.if-count_at-client.false,
      ← c.count_at-2.ensures,
      sym c.is_target.ensures ∙ c.if-not-is_target.false,
      least c.count_at-3.ensures c.if-count_at-ge-LAST_STEP.true,
    )

pub returns : goal.returns
returns c =
    λ clients links keys values log writes reads.
    rw (
      above c.count_at.ensures c.if-count_at-client.false,
      ← c.count_at-2.ensures,
      sym c.is_target.ensures ∙ c.if-not-is_target.false,
      under c.count_at-3.ensures c.if-count_at-ge-LAST_STEP.false,
    )
