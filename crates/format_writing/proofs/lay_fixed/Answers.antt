-- The values so far are laid, and the next begins behind them.
use mathlib.Core.Path.{◌≡◌, sym, ap, ◌∙◌}
use Prim.Native.Nat.{ℕ, ◌+◌, ◌-◌, ◌≤◌}
use native.Mathlib.Omega.{arith}
use lib.ListN.{length, get_or}
use Rattle.ranges.specs.SumLaws.{sum-none}
use Rattle.fields.specs.Bits.{put_field}
use Rattle.frame_table.specs.Table.{entry_place, bits_of}
use Rattle.formats.specs.Format.{width_of}
use Rattle.formats.specs.Walk.{state_at, first_bit}
use Rattle.format_writing.specs.Packing.{laid_to, length-laid_to, laid_more, bit-more, bit_up, row_tells}
use Rattle.format_writing.proofs.lay_fixed.Goals.{In-loop-place}
use Rattle.format_writing.proofs.lay_fixed.Goals as goal

pub loop-place-init : goal.loop-place-init
unfolding laid_to
loop-place-init c = (omega arith, sym (sum-none (λ j. width_of (state_at c.args.fixed.now j))), λ i. c.args.bytes.now)

-- the field of a turn
module _ (c : In-loop-place) where
  told :
      let l = c.loop-place in
      let a = c.args in
      (bits_of (get_or a.row.now l.place 0) ≡ width_of (state_at a.fixed.now l.place))
      × (first_bit a.fixed.now l.place + width_of (state_at a.fixed.now l.place) ≤ first_bit a.fixed.now entry_place)
  told =
      let l = c.loop-place in
      let fixed = c.args.fixed.now in
      let h = c.loop-place-test.true in
      let e : l.place + 1 + (entry_place - (l.place + 1)) ≡ entry_place = omega arith in (
        ap bits_of (row_tells fixed c.requires.its-row l.place h).0,
        omega (arith, bit-more fixed l.place, bit_up fixed (l.place + 1) (entry_place - (l.place + 1)), ap (first_bit fixed) e),
      )

pub lay_field-at-requires : goal.lay_field-at-requires
lay_field-at-requires c =
    let l = c.loop-place in
    let t = told (goal.at.lay_field-at-requires c).In-loop-place in (
      (row_tells c.args.fixed.now c.requires.its-row l.place c.loop-place-test.true).1,
      omega (
        arith,
        t,
        l.invariant.1,
        c.requires.room,
        ap length l.invariant.2
            ∙ length-laid_to c.args.fixed.now c.args.bytes.now l.place,
      ),
    )

pub overflow_add-at : goal.overflow_add-at
overflow_add-at c =
    let l = c.loop-place in
    omega (arith, told (goal.at.overflow_add-at c).In-loop-place, l.invariant.1, c.requires.near, c.lay_field-at.ensures.0)

pub loop-place-preserved : goal.loop-place-preserved
loop-place-preserved c =
    let l = c.loop-place in
    let a = c.args in
    let fixed = a.fixed.now in
    let e = c.lay_field-at.ensures in
    let w = (told (goal.at.loop-place-preserved c).In-loop-place).0 in (
      omega (arith, c.loop-place-test.true),
      omega (arith, l.invariant.1, e.0, w, bit-more fixed l.place),
      laid_more fixed a.bytes.now l.place l.invariant.2 w
          (e.1 ∙ ap (λ (b : ℕ). put_field l.bytes b (bits_of (get_or a.row.now l.place 0)) (get_or fixed l.place 0)) l.invariant.1),
    )

pub shape_of-bytes : goal.shape_of-bytes
shape_of-bytes c =
    let l = c.loop-place in
    let a = c.args in
    ap length l.invariant.2 ∙ length-laid_to a.fixed.now a.bytes.now l.place

pub returns : goal.returns
returns c =
    let l = c.loop-place in
    let a = c.args in
    let e : l.place ≡ entry_place = omega (arith, c.loop-place-test.false, l.invariant.0) in
    (l.invariant.1 ∙ ap (first_bit a.fixed.now) e, l.invariant.2 ∙ ap (laid_to a.fixed.now a.bytes.now) e)

pub bounds-row-place : goal.bounds-row-place
bounds-row-place c = omega arith

pub bounds-fixed-place : goal.bounds-fixed-place
bounds-fixed-place c = omega arith
