-- What is left to put, into the bytes as they are, gives the same in each turn.
use Rattle.std.proofs.Common.{◌∙◌, ap, arith}
use Rattle.fields.specs.Parts.{put_part}
use Rattle.fields.specs.Cases.{put-up_to-none, put-up_to-more}
use Rattle.fields.proofs.put_up_to.Goals as goal

pub loop-i-preserved : goal.loop-i-preserved
loop-i-preserved c =
    let l = c.loop-i in
    let a = c.args in
    put-up_to-more l.bytes a.place a.free l.rest l.i (omega arith)
    (c.put_byte.ensures ∙ ap (λ p. put_part l.bytes p 8 0 l.rest) (omega arith))
    ∙ l.invariant

pub returns : goal.returns
returns c =
    let l = c.loop-i in
    let a = c.args in
    put-up_to-none l.bytes a.place a.free l.rest (omega arith) c.put_first.ensures ∙ l.invariant
