-- The key's fault, or else the number's.
use Rattle.std.proofs.Common.{refl}
use Rattle.std.proofs.lemmas.Result.{err_from_is_err_and}
use Rattle.formats.specs.Results.{number-some}
use Rattle.formats.specs.Judging.{entry_first, entry-second}
use Rattle.frame_faults.proofs.entry_fault.Goals as goal

pub returns-in_err-key_fault : goal.returns-in_err-key_fault
returns-in_err-key_fault c =
    let a = c.args in
    let p = err_from_is_err_and c.from_residual.result c.from_residual.ensures.1 in
    rw (p.1, p.2) (entry_first a.bytes.now a.at a.width a.least c.in_err-key_fault.ensures (number-some _))

pub returns : goal.returns
returns c =
    let a = c.args in
    entry-second a.bytes.now a.at a.width a.least c.in_ok-key_fault.ensures refl
    c.number_fault.ensures
