-- The first i lengths are stored.
use native.Mathlib.Omega.{arith}
use Rattle.ranges.specs.LaidLaws.{laying-none, laying-more, laying-all}
use Rattle.recording_files.proofs.store_lengths.Goals as goal

pub loop-i-init : goal.loop-i-init
loop-i-init c = laying-none _ _ _ c.requires.fits

pub overflow_mul-i : goal.overflow_mul-i
overflow_mul-i c = omega (arith, c.requires.held (omega (arith, c.loop-i-test.true)))

pub overflow_add-i : goal.overflow_add-i
overflow_add-i c = omega (arith, c.requires.held (omega (arith, c.loop-i-test.true)))

pub word_at-requires : goal.word_at-requires
word_at-requires c = omega (arith, c.requires.held (omega (arith, c.loop-i-test.true)))

pub bounds-lengths-i : goal.bounds-lengths-i
bounds-lengths-i c = omega (arith, c.loop-i.invariant.kept, c.loop-i.invariant.room, c.loop-i-test.true)

pub loop-i-preserved : goal.loop-i-preserved
loop-i-preserved c = laying-more c.loop-i.invariant c.loop-i-test.true c.word_at.ensures

pub shape_of-lengths : goal.shape_of-lengths
shape_of-lengths c = c.loop-i.invariant.kept

pub returns : goal.returns
returns c = laying-all c.loop-i.invariant c.loop-i-test.false
