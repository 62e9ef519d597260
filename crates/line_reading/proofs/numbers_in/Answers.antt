-- The loop's invariant is ReadSoFar: the numbers read stand in front. Each took two bytes or more, so that `numbers_most` places are enough.
use Rattle.std.proofs.Common.{rules, refl}
use Rattle.schedule.specs.NumberLaws.{read_none, number_fits, read_more, read-broken, read_all}
use Rattle.line_reading.proofs.numbers_in.Goals as goal

pub loop-at-init : goal.loop-at-init
loop-at-init c = read_none _ _ c.requires.1

pub returns-in_err-read : goal.returns-in_err-read
returns-in_err-read c =
    rw c.from_residual.ensures
    (read-broken _ _ _ _ _ c.loop-at.invariant c.loop-at-test.true c.in_err-read.ensures refl c.requires.0)

pub offset_bounds-numbers-count : goal.offset_bounds-numbers-count
offset_bounds-numbers-count c =
    let f = number_fits _ _ _ _ _ c.loop-at.invariant c.loop-at-test.true c.in_ok-read.ensures refl c.requires.0 in search rules

pub bounds-numbers-count : goal.bounds-numbers-count
bounds-numbers-count c =
    let f = number_fits _ _ _ _ _ c.loop-at.invariant c.loop-at-test.true c.in_ok-read.ensures refl c.requires.0 in search rules

pub overflow_add-at-in-loop-at : goal.overflow_add-at-in-loop-at
overflow_add-at-in-loop-at c =
    let f = number_fits _ _ _ _ _ c.loop-at.invariant c.loop-at-test.true c.in_ok-read.ensures refl c.requires.0 in search rules

pub overflow_add-count : goal.overflow_add-count
overflow_add-count c =
    let f = number_fits _ _ _ _ _ c.loop-at.invariant c.loop-at-test.true c.in_ok-read.ensures refl c.requires.0 in search rules

pub loop-at-smaller : goal.loop-at-smaller
loop-at-smaller c =
    let f = number_fits _ _ _ _ _ c.loop-at.invariant c.loop-at-test.true c.in_ok-read.ensures refl c.requires.0 in search rules

pub loop-at-preserved : goal.loop-at-preserved
loop-at-preserved c = read_more _ _ _ _ _ c.loop-at.invariant c.loop-at-test.true c.in_ok-read.ensures refl c.requires.0

pub shape_of-numbers : goal.shape_of-numbers
shape_of-numbers c = c.loop-at.invariant.size

pub returns : goal.returns
returns c = read_all _ _ _ _ _ c.loop-at.invariant c.loop-at-test.false c.requires.0
