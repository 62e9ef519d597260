-- The three tests of the definition in their order: the value fits the width, is not below the least, and not above the greatest.
use mathlib.Core.Bool.{not}
use mathlib.Core.Path.{ap}
use Rattle.ranges.specs.Tests.{fails, holds}
use Rattle.format_writing.specs.Writing.{allows_wide, allows_low, allows-rest}
use Rattle.format_writing.proofs.allows.Goals as goal

pub returns-then-not-fits_in : goal.returns-then-not-fits_in
returns-then-not-fits_in c =
    let a = c.args in
    allows_wide a.field a.value (fails c.fits_in.ensures (ap not c.if-not-fits_in.true))

pub returns-then-value-field : goal.returns-then-value-field
returns-then-value-field c =
    let a = c.args in
    allows_low a.field a.value (holds c.fits_in.ensures (ap not c.if-not-fits_in.false)) c.if-value-field.true

pub returns : goal.returns
returns c =
    let a = c.args in
    allows-rest a.field a.value (holds c.fits_in.ensures (ap not c.if-not-fits_in.false)) c.if-value-field.false
