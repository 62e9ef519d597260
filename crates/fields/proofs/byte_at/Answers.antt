-- All bits of a byte are the byte.
use mathlib.Core.Path.{sym}
use native.Mathlib.Omega.{arith}
use Rattle.fields.specs.PartLaws.{whole_byte}
use Rattle.fields.proofs.byte_at.Goals as goal

pub overflow_cast-result : goal.overflow_cast-result
overflow_cast-result c = omega (arith, c.shared_slice_known-1.given c.args.place)

pub returns : goal.returns
returns c =
    let a = c.args in
    sym (whole_byte a.bytes.now a.place (omega (arith, c.shared_slice_known-1.given a.place)))
