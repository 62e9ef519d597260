-- Each way out is a case of the definition; across bytes the number is the field bit by bit, so that it fits.
use native.Mathlib.Omega.{arith}
use borrow.Author.Rules.{rules}
use Rattle.fields.specs.Cases.{field-within, field_across}
use Rattle.fields.proofs.Cases.{by_bytes-below}
use Rattle.fields.proofs.by_bytes.Goals as goal

pub returns-then-width-free : goal.returns-then-width-free
returns-then-width-free c =
    let a = c.args in
    field-within a.bytes.now a.at a.width c.if-width-free.true c.part_at.ensures

pub returns : goal.returns
returns c =
    let a = c.args in
    let wider = c.if-width-free.false in
    field_across a.bytes.now a.at a.width wider (search rules) c.up_to.ensures c.last_part.ensures

pub overflow_add-result : goal.overflow_add-result
overflow_add-result c =
    let a = c.args in
    omega (arith, returns c, by_bytes-below a.bytes.now a.at a.width (search rules))
