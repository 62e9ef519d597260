-- `refusal_tests::begin_fault` meets its contract: each way out is one value of the tests in their order.
use mathlib.Core.Path.{sym, ◌∙◌}
use Rattle.ranges.specs.Tests.{most, above, is, is-not}
use Rattle.refusal_tests.proofs.begin_fault.Goals as goal

pub returns-then-count_at-client : goal.returns-then-count_at-client
returns-then-count_at-client c = rw (most c.count_at.ensures c.if-count_at-client.true)

pub returns-then-is_retired : goal.returns-then-is_retired
returns-then-is_retired c =
    rw (above c.count_at.ensures c.if-count_at-client.false, ← c.count_at-2.ensures, sym c.is_retired.ensures ∙ c.if-is_retired.true)

pub returns-then-client_word-ne-IDLE : goal.returns-then-client_word-ne-IDLE
returns-then-client_word-ne-IDLE c =
    rw (
      above c.count_at.ensures c.if-count_at-client.false,
      ← c.count_at-2.ensures,
      sym c.is_retired.ensures ∙ c.if-is_retired.false,
      is-not c.client_word.ensures c.if-client_word-ne-IDLE.true,
    )

pub returns-then-not-fits : goal.returns-then-not-fits
returns-then-not-fits c =
    rw (
      above c.count_at.ensures c.if-count_at-client.false,
      ← c.count_at-2.ensures,
      sym c.is_retired.ensures ∙ c.if-is_retired.false,
      is c.client_word.ensures c.if-client_word-ne-IDLE.false,
      c.if-not-fits.true,
    )

pub returns-then-is_spent : goal.returns-then-is_spent
returns-then-is_spent c =
    rw (
      above c.count_at.ensures c.if-count_at-client.false,
      ← c.count_at-2.ensures,
      sym c.is_retired.ensures ∙ c.if-is_retired.false,
      is c.client_word.ensures c.if-client_word-ne-IDLE.false,
      c.if-not-fits.false,
      sym c.is_spent.ensures ∙ c.if-is_spent.true,
    )

pub returns : goal.returns
returns c =
    rw (
      above c.count_at.ensures c.if-count_at-client.false,
      ← c.count_at-2.ensures,
      sym c.is_retired.ensures ∙ c.if-is_retired.false,
      is c.client_word.ensures c.if-client_word-ne-IDLE.false,
      c.if-not-fits.false,
      sym c.is_spent.ensures ∙ c.if-is_spent.false,
    )
