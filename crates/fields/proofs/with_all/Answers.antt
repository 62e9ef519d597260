-- Nothing of the byte stays.
use borrow.Author.Rules.{rules}
use Rattle.fields.specs.PartLaws.{byte_with}
use Rattle.fields.proofs.with_all.Goals as goal

pub returns : goal.returns
returns c = byte_with c.args.byte c.args.value (search rules)
