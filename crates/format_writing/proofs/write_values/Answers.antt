-- One law a branch; the frame is laid over the first bytes, and those behind it are as before.
use mathlib.Core.Bool.{not}
use mathlib.Core.Path.{◌≡◌, sym, ap, ◌∙◌}
use mathlib.Core.Bool.{true}
use mathlib.Core.List.{List, ◌++◌}
use Prim.Native.Nat.{ℕ}
use native.Mathlib.Omega.{arith}
use lib.ListN.{length, get_or, drop}
use lib.Seq.{length-take-le}
use Rattle.ranges.specs.Tests.{fails, holds}
use Rattle.frame_table.specs.declared.Shape.{Shape}
use Rattle.formats.specs.Grammar.{good, lay, zeros, frame}
use Rattle.formats.specs.Format.{format}
use Rattle.formats.specs.Entries.{values_by}
use Rattle.frame_table.specs.TableLaws.{target_is}
use Rattle.formats.specs.EntryLaws.{values-kind}
use Rattle.format_writing.specs.Laying.{kind_unknown, write_bad, write_small, write_done, frame-over, size_inside, length_is}
use Rattle.format_writing.proofs.write_values.Goals.{After-frame_length-length, Else-not-writable}
use Rattle.format_writing.proofs.write_values.Goals as goal

-- a number that is no kind
pub returns-then-kind-gt-LAST_KIND : goal.returns-then-kind-gt-LAST_KIND
returns-then-kind-gt-LAST_KIND c =
    let a = c.args in
    write_bad _ a.bytes.now (kind_unknown _ (rw (values-kind c.requires) c.if-kind-gt-LAST_KIND.true))

pub target_of-requires : goal.target_of-requires
target_of-requires c =
    let a = c.args in
    target_is (get_or a.fixed.now 0 0) (omega (arith, c.if-kind-gt-LAST_KIND.false)) c.shape_of-shape.ensures

pub row_of-row-requires : goal.row_of-row-requires
row_of-row-requires c = c.target_of.ensures ∙ ap (λ (s : Shape). s.target) c.shape_of-shape.ensures

-- the values are good
module _ (c : Else-not-writable) where
  right :
      let a = c.args in
      good format (values_by a.fixed.now a.keys.now a.badges.now a.numbers.now a.entries) ≡ true
  right = holds c.writable.ensures (ap not c.if-not-writable.false)

-- and the table tells how long their frame is
module _ (c : After-frame_length-length) where
  long :
      let a = c.args in
      c.frame_length-length.result
      ≡ length (frame format (values_by a.fixed.now a.keys.now a.badges.now a.numbers.now a.entries))
  long =
      length_is c.requires ((holds c.writable.ensures (ap not c.if-not-writable.false))) c.shape_of-shape.ensures c.frame_length-length.ensures

pub returns-then-not-writable : goal.returns-then-not-writable
returns-then-not-writable c =
    let a = c.args in
    write_bad _ a.bytes.now (fails c.writable.ensures (ap not c.if-not-writable.true))

pub returns-then-bytes-length : goal.returns-then-bytes-length
returns-then-bytes-length c =
    let a = c.args in
    write_small _ a.bytes.now (right (goal.at.returns-then-bytes-length c).Else-not-writable) (omega (arith, long (goal.at.returns-then-bytes-length c).After-frame_length-length, c.if-bytes-length.true))

pub slice_bounds-fill-end-2 : goal.slice_bounds-fill-end-2
slice_bounds-fill-end-2 c =
    let a = c.args in
    sym (length-take-le c.frame_length-length.result a.bytes.now c.if-bytes-length.false)

pub fill-requires : goal.fill-requires
fill-requires c =
    let room = length-take-le c.frame_length-length.result c.args.bytes.now c.if-bytes-length.false in
    record {
      its-row = c.row_of-row.ensures;
      packable = c.requires;
      right = right (goal.at.fill-requires c).Else-not-writable;
      fits = omega (arith, size_inside _ (long (goal.at.fill-requires c).After-frame_length-length), room);
    }

pub returns : goal.returns
returns c =
    let a = c.args in
    let vs = values_by a.fixed.now a.keys.now a.badges.now a.numbers.now a.entries in
    let n = c.frame_length-length.result in
    let h = c.if-bytes-length.false in
    let w = write_done vs a.bytes.now (right (goal.at.returns c).Else-not-writable) (long (goal.at.returns c).After-frame_length-length) h in
    let over =
    c.fill.ensures ∙ ap (λ (k : ℕ). lay format vs (zeros k) 0) (length-take-le n a.bytes.now h)
    ∙ frame-over vs (long (goal.at.returns c).After-frame_length-length) in
    (w.0, ap (λ (b : List ℕ). b ++ drop n a.bytes.now) over ∙ w.1)
