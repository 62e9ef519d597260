-- The first i places hold the badges of the first i entries.
use mathlib.Core.Path.{◌≡◌, sym, ap, ap₂, ◌∙◌}
use Prim.Native.Nat.{ℕ, ◌+◌, ◌-◌, ◌*◌, ◌≤◌}
use native.Mathlib.Nat.{mul-le-mul, suc-mul}
use native.Mathlib.Numerals.{add-one}
use native.Mathlib.Omega.{arith}
use lib.ListN.{length}
use Rattle.ranges.specs.LaidLaws.{laying-none, laying-more, laying-all}
use Rattle.fields.specs.Bits.{field_at}
use Rattle.fields.specs.ByBytes.{field_by_bytes_lem}
use Rattle.frame_table.specs.Columns.{most_bits}
use Rattle.frame_table.specs.Entry.{key_bits, entry_bits}
use Rattle.formats.proofs.entries.store_badges.Goals.{In-loop-i}
use Rattle.formats.proofs.entries.store_badges.Goals as goal

pub loop-i-init : goal.loop-i-init
loop-i-init c = (omega arith, laying-none _ _ _ c.requires.2)

-- an entry is left, and lies within the bytes
module _ (c : In-loop-i) where
  one_more :
      let l = c.loop-i in
      let a = c.args in
      (l.i + 1) * entry_bits a.behind ≡ l.i * entry_bits a.behind + entry_bits a.behind
  one_more =
      let l = c.loop-i in
      let a = c.args in
      ap (λ (n : ℕ). n * entry_bits a.behind) (add-one l.i) ∙ suc-mul l.i (entry_bits a.behind)

  here :
      let l = c.loop-i in
      let a = c.args in
      (l.at + entry_bits a.behind ≤ 8 * length a.bytes.now) × (l.at + entry_bits a.behind ≤ most_bits)
  here =
      let l = c.loop-i in
      let a = c.args in
      let p = c.requires.0 in
      let room : (l.i + 1) * entry_bits a.behind ≤ a.entries * entry_bits a.behind =
      mul-le-mul (omega (arith, c.loop-i-test.true)) (omega arith) in
      (omega (arith, l.invariant.0, one_more, room, p.inside), omega (arith, l.invariant.0, one_more, room, p.near))

pub read_field-requires : goal.read_field-requires
read_field-requires c = record { narrow = omega arith; inside = omega (arith, here c, c.requires.1) }

pub loop-i-preserved : goal.loop-i-preserved
loop-i-preserved c =
    let l = c.loop-i in
    let a = c.args in
    let badge =
    c.read_field.ensures ∙ field_by_bytes_lem _ _ _
    ∙ ap₂ (λ (p w : ℕ). field_at a.bytes.now (p + key_bits) w) l.invariant.0 (sym c.requires.1) in
    (omega (arith, l.invariant.0, one_more (goal.at.loop-i-preserved c).In-loop-i, c.requires.1), laying-more l.invariant.1 c.loop-i-test.true badge)

pub returns : goal.returns
returns c = laying-all c.loop-i.invariant.1 c.loop-i-test.false

pub overflow_add-at : goal.overflow_add-at
overflow_add-at c = omega (arith, here c)

pub bounds-badges-i : goal.bounds-badges-i
bounds-badges-i c = omega (arith, c.loop-i.invariant.1.kept, c.loop-i.invariant.1.room)

pub overflow_add-at-in-loop-i-2 : goal.overflow_add-at-in-loop-i-2
overflow_add-at-in-loop-i-2 c = omega (arith, here (goal.at.overflow_add-at-in-loop-i-2 c).In-loop-i, c.requires.1)

pub overflow_add-at-in-loop-i-3 : goal.overflow_add-at-in-loop-i-3
overflow_add-at-in-loop-i-3 c = omega (arith, here (goal.at.overflow_add-at-in-loop-i-3 c).In-loop-i, c.requires.1)

pub shape_of-badges : goal.shape_of-badges
shape_of-badges c = c.loop-i.invariant.1.kept
