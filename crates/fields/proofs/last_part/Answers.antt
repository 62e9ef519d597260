-- The shift takes the bits behind the part away.
use mathlib.Core.Path.{sym}
use native.Mathlib.Omega.{arith}
use Rattle.fields.specs.PartLaws.{last-part}
use Rattle.fields.proofs.last_part.Goals as goal

pub overflow_cast-byte : goal.overflow_cast-byte
overflow_cast-byte c = omega (arith, c.shared_slice_known-1.given c.args.place)

pub returns : goal.returns
returns c =
    sym (last-part c.args.bytes.now c.args.place c.args.left c.requires.0
    (omega (arith, c.shared_slice_known-1.given c.args.place)))
