-- The remainder takes the bits before the part away, the shift those behind it; no bits are 0.
use mathlib.Core.Path.{sym, ap, ◌∙◌}
use Prim.Native.Nat.{ℕ, ◌/◌, ◌%◌, ◌^◌}
use native.Mathlib.Omega.{arith}
use lib.ListN.{get_or}
use Rattle.fields.specs.Parts.{part_at}
use Rattle.fields.specs.PartLaws.{part_none}
use Rattle.fields.proofs.part_at.Goals as goal

pub returns-then-width-eq0 : goal.returns-then-width-eq0
returns-then-width-eq0 c =
    let a = c.args in
    sym (ap (λ (w : ℕ). part_at a.bytes.now a.place w a.behind) c.if-width-eq0.true ∙ part_none a.bytes.now a.place a.behind)

pub overflow_cast-byte : goal.overflow_cast-byte
overflow_cast-byte c = omega (arith, c.shared_slice_known-2-1.given c.args.place)

pub returns : goal.returns
unfolding part_at
returns c =
    let a = c.args in
    ap (λ (n : ℕ). get_or a.bytes.now a.place 0 % n / 2 ^ a.behind) c.power.ensures.0
