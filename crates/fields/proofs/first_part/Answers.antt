-- The remainder takes the bits before the part away.
use mathlib.Core.Path.{sym, ap, ◌∙◌}
use Prim.Native.Nat.{ℕ, ◌%◌}
use native.Mathlib.Omega.{arith}
use lib.ListN.{get_or}
use Rattle.fields.specs.PartLaws.{first_part}
use Rattle.fields.proofs.first_part.Goals as goal

pub overflow_cast-byte : goal.overflow_cast-byte
overflow_cast-byte c = omega (arith, c.shared_slice_known-2-1.given c.args.place)

pub returns : goal.returns
returns c =
    let a = c.args in
    ap (λ (n : ℕ). get_or a.bytes.now a.place 0 % n) c.power.ensures.0 ∙ sym (first_part a.bytes.now a.place a.free)
