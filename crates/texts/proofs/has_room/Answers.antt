-- The quotient is compared, not the product.
use Rattle.texts.specs.TextLaws.{no_register, by_quotient}
use Rattle.texts.proofs.has_room.Goals as goal

pub returns-then-size-lt-MOST : goal.returns-then-size-lt-MOST
returns-then-size-lt-MOST c = no_register c.args.lines c.args.size c.if-size-lt-MOST.true

pub returns : goal.returns
returns c = by_quotient c.args.lines c.args.size c.if-size-lt-MOST.false
