-- What was found in the bytes is a frame, unless they are refused.
use Rattle.std.proofs.Common.{refl}
use Rattle.std.proofs.lemmas.Result.{err_from_is_err_and}
use Rattle.formats.specs.Results.{number-some}
use Rattle.frames.specs.Frames.{found}
use Rattle.frames.specs.Answers.{read-refused, scan-found}
use Rattle.frames.proofs.read_frame.Goals as goal

pub returns-in_err-scan : goal.returns-in_err-scan
returns-in_err-scan c =
    let a = c.args in
    let p = err_from_is_err_and c.from_residual.result c.from_residual.ensures.1 in
    rw (p.1, p.2) (read-refused (found a.bytes.now) a.keys.now a.badges.now a.numbers.now c.in_err-scan.ensures (number-some _))

pub deliver-requires : goal.deliver-requires
deliver-requires c = scan-found c.args.bytes.now c.in_ok-scan.ensures refl
