-- The three numbers together are a byte again, so none of them wraps.
use mathlib.Core.Path.{◌≡◌}
use Prim.Native.Nat.{ℕ, ◌+◌, ◌*◌, ◌/◌, ◌%◌, ◌^◌}
use native.Mathlib.Nat.{div-mul-le_self}
use native.Mathlib.Omega.{arith}
use borrow.Author.Rules.{rules}
use Rattle.fields.specs.Parts.{with_part}
use Rattle.fields.specs.PartLaws.{with-part-below}
use Rattle.fields.proofs.with_part.Goals as goal

-- what the code computes, by the powers that it has
module _ (x w k v : ℕ) {above unit end : ℕ} (f : above ≡ 2 ^ (w + k)) (u : unit ≡ 2 ^ k) (e : end ≡ 2 ^ w) where
  computed : x / above * above + v % end * unit + x % unit ≡ with_part x w k v
  unfolding with_part
  computed = rw (f, u, e)

pub returns : goal.returns
returns c =
    let a = c.args in
    let above = c.power-above in
    let unit = c.power-unit in
    computed a.byte a.width a.behind a.value above.ensures.0 unit.ensures.0 c.power.ensures.0

pub overflow_cast-result : goal.overflow_cast-result
overflow_cast-result c =
    let a = c.args in
    record { fits = rw (returns c) (with-part-below a.byte a.width a.behind a.value 8 (search rules) (search rules)) }

pub overflow_mul-result : goal.overflow_mul-result
overflow_mul-result c = omega (arith, div-mul-le_self c.args.byte c.power-above.result)

pub overflow_mul-result-2 : goal.overflow_mul-result-2
overflow_mul-result-2 c = omega (arith, (overflow_cast-result c).fits)

pub overflow_add-result : goal.overflow_add-result
overflow_add-result c = omega (arith, (overflow_cast-result c).fits)

pub overflow_add-result-2 : goal.overflow_add-result-2
overflow_add-result-2 c = omega (arith, (overflow_cast-result c).fits)
