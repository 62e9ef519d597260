-- A column's bits fit a byte, so that no product and no sum wraps.
use borrow.Author.Rules.{rules}
use Prim.Native.Nat.{◌*◌, ◌≤◌}
use native.Mathlib.Omega.{arith}
use native.Mathlib.Nat.{mul-le-mul}
use Rattle.frame_table.specs.Columns.{length_by}
use Rattle.frame_table.proofs.frame_length.Goals as goal

module _ (c : goal.After-struct_known-2-1) where
  few_bits : c.args.entries * c.args.shape.entry ≤ 256 * 255
  few_bits =
      let h : c.args.shape.entry ≤ 255 = omega arith in
      mul-le-mul c.requires h

pub returns : goal.returns
unfolding length_by
returns c = search rules

pub overflow_mul-result : goal.overflow_mul-result
overflow_mul-result c = omega (arith, few_bits c)

pub overflow_add-result-2 : goal.overflow_add-result-2
overflow_add-result-2 c = omega (arith, few_bits c)

pub overflow_add-result-3 : goal.overflow_add-result-3
overflow_add-result-3 c = omega (arith, few_bits c)
