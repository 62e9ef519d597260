-- Before turn i the value is the first part with i whole bytes behind it, which leaves room for a byte more.
use Rattle.std.proofs.Common.{◌∙◌, ap, ◌+◌, arith}
use Rattle.fields.specs.Parts.{part_at, up_to}
use Rattle.fields.specs.PartLaws.{part-below}
use Rattle.fields.specs.Cases.{up_to-none, up_to-more, up_to-below}
use Rattle.fields.proofs.up_to.Goals as goal

pub loop-i-init : goal.loop-i-init
loop-i-init c = let a = c.args in up_to-none a.bytes.now a.place a.free c.first_part-value.ensures

pub overflow_mul-value : goal.overflow_mul-value
overflow_mul-value c =
    let a = c.args in
    let l = c.loop-i in
    omega (arith, l.invariant, up_to-below a.bytes.now a.place a.free l.i 24 (omega arith) (omega arith))

pub overflow_add-value : goal.overflow_add-value
overflow_add-value c =
    let a = c.args in
    let l = c.loop-i in
    let below = up_to-below a.bytes.now a.place a.free l.i 24 (omega arith) (omega arith) in
    omega (arith, l.invariant, below, c.byte_at.ensures, part-below a.bytes.now (a.place + l.i + 1) 8 0)

pub loop-i-preserved : goal.loop-i-preserved
loop-i-preserved c =
    let a = c.args in
    let l = c.loop-i in
    up_to-more a.bytes.now a.place a.free l.i l.invariant
    (c.byte_at.ensures ∙ ap (λ p. part_at a.bytes.now p 8 0) (omega arith))

pub returns : goal.returns
returns c = c.loop-i.invariant ∙ ap (up_to _ _ _) (omega arith)
