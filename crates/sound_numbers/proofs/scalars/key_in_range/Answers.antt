-- `sound_numbers::scalars::key_in_range` meets its contract: 0, or both tests.
use mathlib.Core.Bool.{not}
use mathlib.Core.Path.{ap}
use borrow.Author.Tests.{eq-eqb, ne_eqb}
use Rattle.ranges.specs.Tests.{fails, holds}
use Rattle.soundness.specs.Sound.{key_in_range}
use Rattle.sound_numbers.proofs.scalars.key_in_range.Goals as goal

pub returns-then-word-eq0 : goal.returns-then-word-eq0
unfolding key_in_range
returns-then-word-eq0 c = rw (eq-eqb _ _ c.if-word-eq0.true)

pub returns-then-not-between : goal.returns-then-not-between
unfolding key_in_range
returns-then-not-between c = rw (ne_eqb _ _ c.if-word-eq0.false, fails c.between.ensures (ap not c.if-not-between.true))

pub returns : goal.returns
unfolding key_in_range
returns c = rw (ne_eqb _ _ c.if-word-eq0.false, holds c.between.ensures (ap not c.if-not-between.false))
