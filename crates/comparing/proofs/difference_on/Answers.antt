-- `comparing::difference_on` meets its contract: the frames of the link before the two cursors are the same, as many in each.
use mathlib.Core.Bool.{not}
use mathlib.Core.Path.{ap}
use Prim.Native.Nat.{◌-◌}
use native.Mathlib.Omega.{arith}
use Rattle.ranges.specs.Tests.{fails, holds}
use Rattle.recordings.specs.Following.{level-start, level-end, level-missing, level-missing_other, level_differs, level-next}
use Rattle.comparing.proofs.difference_on.Goals as goal

pub next_on-here-requires : goal.next_on-here-requires
next_on-here-requires c = c.requires.one

pub next_on-there-requires : goal.next_on-there-requires
next_on-there-requires c = c.requires.other

pub loop-here-init : goal.loop-here-init
loop-here-init c =
    let a = c.args in
    level-start a.one.now.lengths.now a.one.now.bytes.now a.other.now.lengths.now a.other.now.bytes.now a.client a.target
    c.next_on-here.ensures c.next_on-there.ensures

pub returns-then-other-there : goal.returns-then-other-there
returns-then-other-there c =
    let a = c.args in
    level-missing_other a.one.now.lengths.now a.one.now.bytes.now a.other.now.lengths.now a.other.now.bytes.now a.client a.target c.loop-here.invariant
    c.loop-here-test.true c.if-other-there.true

pub is_same_frame-requires : goal.is_same_frame-requires
is_same_frame-requires c =
    let l = c.loop-here.invariant in (
      record { stands = l.one.stands; before = c.loop-here-test.true },
      record { stands = l.other.stands; before = c.if-other-there.false },
    )

pub returns-then-not-is_same_frame : goal.returns-then-not-is_same_frame
returns-then-not-is_same_frame c =
    let a = c.args in
    level_differs a.one.now.lengths.now a.one.now.bytes.now a.other.now.lengths.now a.other.now.bytes.now a.client a.target c.loop-here.invariant
    c.loop-here-test.true c.if-other-there.false (fails c.is_same_frame.ensures (ap not c.if-not-is_same_frame.true))

pub next_behind-here-requires : goal.next_behind-here-requires
next_behind-here-requires c = record { stands = c.loop-here.invariant.one.stands; before = c.loop-here-test.true }

pub next_behind-there-requires : goal.next_behind-there-requires
next_behind-there-requires c = record { stands = c.loop-here.invariant.other.stands; before = c.if-other-there.false }

pub overflow_add-place : goal.overflow_add-place
overflow_add-place c = omega (arith, c.loop-here.invariant.early, c.loop-here-test.true, c.requires.few)

pub loop-here-smaller : goal.loop-here-smaller
loop-here-smaller c = omega (arith, c.next_behind-here.ensures.later, c.loop-here-test.true)

pub loop-here-preserved : goal.loop-here-preserved
loop-here-preserved c =
    let a = c.args in
    level-next a.one.now.lengths.now a.one.now.bytes.now a.other.now.lengths.now a.other.now.bytes.now a.client a.target c.loop-here.invariant
    c.loop-here-test.true c.if-other-there.false (holds c.is_same_frame.ensures (ap not c.if-not-is_same_frame.false))
    c.next_behind-here.ensures c.next_behind-there.ensures

pub returns-then-there-other : goal.returns-then-there-other
returns-then-there-other c =
    let a = c.args in
    level-missing a.one.now.lengths.now a.one.now.bytes.now a.other.now.lengths.now a.other.now.bytes.now a.client a.target c.loop-here.invariant
    c.loop-here-test.false c.if-there-other.true

pub returns : goal.returns
returns c =
    let a = c.args in
    level-end a.one.now.lengths.now a.one.now.bytes.now a.other.now.lengths.now a.other.now.bytes.now a.client a.target c.loop-here.invariant
    c.loop-here-test.false c.if-there-other.false
