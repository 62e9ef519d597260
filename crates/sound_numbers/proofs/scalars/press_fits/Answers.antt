-- `sound_numbers::scalars::press_fits` meets its contract: each way out is one more test passed.
use mathlib.Core.Bool.{not}
use mathlib.Core.Path.{ap}
use borrow.Author.Tests.{eq-eqb, ne_eqb}
use Rattle.ranges.specs.Tests.{fails, holds}
use Rattle.soundness.specs.Sound.{press_fits}
use Rattle.sound_numbers.proofs.scalars.press_fits.Goals as goal

pub returns-then-not-between : goal.returns-then-not-between
unfolding press_fits
returns-then-not-between c = rw (fails c.between.ensures (ap not c.if-not-between.true))

pub returns-then-not-between-2 : goal.returns-then-not-between-2
unfolding press_fits
returns-then-not-between-2 c =
    rw (
      holds c.between.ensures (ap not c.if-not-between.false),
      fails c.between-2.ensures (ap not c.if-not-between-2.true),
    )

pub returns-then-method-eq1 : goal.returns-then-method-eq1
unfolding press_fits
returns-then-method-eq1 c =
    rw (
      holds c.between.ensures (ap not c.if-not-between.false),
      holds c.between-2.ensures (ap not c.if-not-between-2.false),
      eq-eqb _ _ c.if-method-eq1.true,
    ) c.between-then-method-eq1.ensures

pub returns : goal.returns
unfolding press_fits
returns c =
    rw (
      holds c.between.ensures (ap not c.if-not-between.false),
      holds c.between-2.ensures (ap not c.if-not-between-2.false),
      ne_eqb _ _ c.if-method-eq1.false,
    ) c.between-3.ensures
