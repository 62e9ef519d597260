-- One law a branch.
use Rattle.format_writing.specs.Packing.{number-below, number_fits}
use Rattle.format_writing.proofs.number_right.Goals as goal

pub returns-then-number-least : goal.returns-then-number-least
returns-then-number-least c = let a = c.args in number-below a.width a.least a.number c.if-number-least.true

pub returns : goal.returns
returns c =
    let a = c.args in
    number_fits a.width a.least a.number c.if-number-least.false c.fits_in.ensures
