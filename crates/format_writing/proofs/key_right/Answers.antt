-- One law a branch.
use Rattle.format_writing.specs.Packing.{key_wide, key_foreign, key-some, key-zero}
use Rattle.format_writing.proofs.key_right.Goals as goal

pub returns-then-count-gt255 : goal.returns-then-count-gt255
returns-then-count-gt255 c = key_wide c.args.key c.if-count-gt255.true

pub returns-then-owner-gt15 : goal.returns-then-owner-gt15
returns-then-owner-gt15 c = key_foreign c.args.key c.if-count-gt255.false c.if-owner-gt15.true

pub returns-then-count-ne0 : goal.returns-then-count-ne0
returns-then-count-ne0 c = key-some c.args.key c.if-count-gt255.false c.if-owner-gt15.false c.if-count-ne0.true

pub returns : goal.returns
returns c = key-zero c.args.key c.if-count-gt255.false c.if-owner-gt15.false c.if-count-ne0.false
