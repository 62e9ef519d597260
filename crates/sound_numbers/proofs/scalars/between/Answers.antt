-- `sound_numbers::scalars::between` meets its contract: each way out is one value of the first test.
use borrow.Author.Tests.{le-leb, lt-leb}
use Rattle.sound_numbers.proofs.scalars.between.Goals as goal

pub returns-then-low-number : goal.returns-then-low-number
returns-then-low-number c = rw (le-leb _ _ c.if-low-number.true)

pub returns : goal.returns
returns c = rw (lt-leb _ _ c.if-low-number.false)
