-- Each way out is a case of the definition.
use borrow.Author.Rules.{rules}
use Rattle.fields.specs.Cases.{put-within, put_across}
use Rattle.fields.proofs.put_by_bytes.Goals as goal

pub returns-then-width-free : goal.returns-then-width-free
returns-then-width-free c =
    let a = c.args in
    put-within a.bytes.now a.at a.width (search rules) a.value c.put_part.ensures

pub returns : goal.returns
returns c =
    let a = c.args in
    put_across a.bytes.now a.at a.width (search rules) a.value c.put_last.ensures c.put_up_to.ensures
