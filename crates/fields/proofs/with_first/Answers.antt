-- The two numbers together are a byte again, so neither wraps.
use mathlib.Core.Path.{ap, ◌∙◌}
use Prim.Native.Nat.{ℕ, ◌+◌, ◌*◌, ◌/◌, ◌%◌}
use native.Mathlib.Nat.{div-mul-le_self}
use native.Mathlib.Omega.{arith}
use borrow.Author.Rules.{rules}
use Rattle.fields.specs.PartLaws.{first_with, with-part-below}
use Rattle.fields.proofs.with_first.Goals as goal

pub returns : goal.returns
returns c =
    let a = c.args in
    ap (λ (n : ℕ). a.byte / n * n + a.value % n) c.power-unit.ensures.0 ∙ first_with a.byte a.free a.value

pub overflow_cast-result : goal.overflow_cast-result
overflow_cast-result c =
    let a = c.args in
    record { fits = rw (returns c) (with-part-below a.byte a.free 0 a.value 8 (search rules) (search rules)) }

pub overflow_mul-result : goal.overflow_mul-result
overflow_mul-result c = omega (arith, div-mul-le_self c.args.byte c.power-unit.result)

pub overflow_add-result : goal.overflow_add-result
overflow_add-result c = omega (arith, (overflow_cast-result c).fits)
