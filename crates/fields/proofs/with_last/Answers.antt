-- The two numbers together are a byte again, so neither wraps.
use mathlib.Core.Path.{ap₂, ◌∙◌}
use Prim.Native.Nat.{ℕ, ◌+◌, ◌*◌, ◌%◌}
use native.Mathlib.Omega.{arith}
use borrow.Author.Rules.{rules}
use Rattle.fields.specs.PartLaws.{last_with, with-part-below}
use Rattle.fields.proofs.with_last.Goals as goal

pub returns : goal.returns
returns c =
    let a = c.args in
    ap₂ (λ (m n : ℕ). a.value % m * n + a.byte % n) c.power.ensures.0 c.power-unit.ensures.0
    ∙ last_with a.byte a.left a.value c.requires (search rules)

pub overflow_cast-result : goal.overflow_cast-result
overflow_cast-result c =
    let a = c.args in
    record { fits = rw (returns c) (with-part-below a.byte a.left _ a.value 8 (search rules) (search rules)) }

pub overflow_mul-result : goal.overflow_mul-result
overflow_mul-result c = omega (arith, (overflow_cast-result c).fits)

pub overflow_add-result : goal.overflow_add-result
overflow_add-result c = omega (arith, (overflow_cast-result c).fits)
