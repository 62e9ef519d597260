-- `recorded_frames::next_on` meets its contract: no frame of the link was passed.
use Rattle.std.proofs.Common.{◌≡◌, ℕ, length, refl, subst}
use native.Mathlib.Omega.{arith}
use Rattle.recordings.specs.Following.{passing-start, passing-end, header_inside, passing-found, passing_on}
use Rattle.recordings.specs.Whole.{Reached, frame_inside}
use Rattle.recorded_frames.proofs.next_on.Goals as goal

pub loop-frame-init : goal.loop-frame-init
loop-frame-init c = passing-start _ _ _ _ _ _ c.requires

pub is_on-requires : goal.is_on-requires
is_on-requires c =
    let a = c.args in
    header_inside a.recording.now.lengths.now a.recording.now.bytes.now a.client a.target a.from.frame a.from.at c.loop-frame.frame c.loop-frame.at
    c.loop-frame.invariant c.loop-frame-test.true

pub returns-then-is_on : goal.returns-then-is_on
returns-then-is_on c =
    let a = c.args in
    passing-found a.recording.now.lengths.now a.recording.now.bytes.now a.client a.target a.from.frame a.from.at c.loop-frame.frame c.loop-frame.at
    c.loop-frame.invariant c.loop-frame-test.true c.is_on.ensures c.if-is_on.true

pub overflow_add-at : goal.overflow_add-at
overflow_add-at c =
    let a = c.args in
    let l = c.loop-frame in
    let h = c.loop-frame-test.true in
    omega (arith, frame_inside a.recording.now.lengths.now a.recording.now.bytes.now l.frame l.at h l.invariant.stands)

pub loop-frame-preserved : goal.loop-frame-preserved
loop-frame-preserved c =
    let a = c.args in
    passing_on a.recording.now.lengths.now a.recording.now.bytes.now a.client a.target a.from.frame a.from.at c.loop-frame.frame c.loop-frame.at
    c.loop-frame.invariant c.loop-frame-test.true c.is_on.ensures c.if-is_on.false refl

pub returns : goal.returns
returns c =
    let a = c.args in
    let r = a.recording.now in
    let l = c.loop-frame in
    let P : ℕ → Type 0 = λ n. Reached r.lengths.now r.bytes.now a.client a.target a.from.frame a.from.at (record { frame = n; at = l.at }) in
    let e : l.frame ≡ length r.lengths.now = omega (arith, c.loop-frame-test.false, l.auto.frame-end c.requires.there) in
    subst P e (passing-end r.lengths.now r.bytes.now a.client a.target a.from.frame a.from.at l.frame l.at l.invariant c.loop-frame-test.false)
