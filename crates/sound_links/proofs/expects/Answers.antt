-- `sound_links::expects` meets its contract: each way out is one more test passed.
use mathlib.Core.Bool.{not}
use mathlib.Core.Path.{ap}
use borrow.Author.Tests.{eq-eqb, ne_eqb}
use Rattle.ranges.specs.Tests.{fails, holds}
use Rattle.sound_links.proofs.expects.Goals as goal

pub returns-then-state-ne-ASKING_ALL : goal.returns-then-state-ne-ASKING_ALL
returns-then-state-ne-ASKING_ALL c = λ t. rw (← c.client_word-state.ensures, ne_eqb _ _ c.if-state-ne-ASKING_ALL.true)

pub returns-then-not-uses : goal.returns-then-not-uses
returns-then-not-uses c =
    λ t. rw (
      ← c.client_word-state.ensures,
      eq-eqb _ _ c.if-state-ne-ASKING_ALL.false,
      ← c.client_word-mask.ensures,
      fails c.uses.ensures (ap not c.if-not-uses.true),
    )

pub returns : goal.returns
returns c =
    λ t. rw (
      ← c.client_word-state.ensures,
      eq-eqb _ _ c.if-state-ne-ASKING_ALL.false,
      ← c.client_word-mask.ensures,
      holds c.uses.ensures (ap not c.if-not-uses.false),
    ) c.is_empty.ensures
