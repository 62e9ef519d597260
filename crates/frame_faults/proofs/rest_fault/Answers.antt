-- The entries' fault, or else that of what stands behind them; entries without a fault lie within the bytes.
use Rattle.std.proofs.Common.{sym, refl}
use Rattle.std.proofs.lemmas.Result.{err_from_is_err_and}
use Rattle.formats.specs.Results.{number-some}
use Rattle.formats.specs.Judging.{rest-first, rest-second, entries_inside}
use Rattle.frame_faults.proofs.rest_fault.Goals as goal

pub returns-in_err-entries_fault : goal.returns-in_err-entries_fault
returns-in_err-entries_fault c =
    let a = c.args in
    let p = err_from_is_err_and c.from_residual.result c.from_residual.ensures.1 in
    rw (p.1, p.2) (rest-first a.bytes.now a.at a.width a.least a.entries c.in_err-entries_fault.ensures (number-some _))

pub finish-requires : goal.finish-requires
finish-requires c =
    let a = c.args in
    let none = sym c.in_ok-entries_fault.ensures in
    (c.requires.0.near, entries_inside a.bytes.now a.width a.least a.entries a.at none c.requires.1)

pub returns : goal.returns
returns c =
    let a = c.args in
    rest-second a.bytes.now a.at a.width a.least a.entries c.in_ok-entries_fault.ensures refl
    c.finish.ensures
