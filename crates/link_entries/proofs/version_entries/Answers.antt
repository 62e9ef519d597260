-- `link_entries::version_entries` meets its contract: the first places hold the badges and the setpoints of the versions passed.
use Rattle.ranges.specs.LaidLaws.{laying-none, laying-more, laying-all}
use Rattle.link_entries.proofs.version_entries.Goals as goal

pub loop-place-init : goal.loop-place-init
loop-place-init c = let p = c.requires in (laying-none _ _ _ p.1, laying-none _ _ _ p.2)

pub loop-place-preserved : goal.loop-place-preserved
loop-place-preserved c =
    let l = c.loop-place.invariant in
    let h = c.loop-place-test.true in
    (laying-more l.0 h c.version_badge.ensures, laying-more l.1 h c.version_setpoint.ensures)

pub returns : goal.returns
returns c = let l = c.loop-place.invariant in (laying-all l.0 c.loop-place-test.false, laying-all l.1 c.loop-place-test.false)
