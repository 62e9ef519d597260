-- `link_frames::write_all` meets its contract: the part of the keys and the fronts of the rows are those of the server's first versions.
use mathlib.Core.Path.{◌≡◌, sym, ap, ◌∙◌}
use Prim.Native.Nat.{◌+◌, ◌-◌}
use native.Mathlib.Omega.{arith}
use lib.ListN.{length}
use Rattle.ranges.specs.LaidLaws.{built-length, laid_front}
use Rattle.tables.specs.Layout.{version_badge, version_setpoint}
use Rattle.frames.specs.declared.Message.TheVariants.{All}
use Rattle.wire.specs.Cases.{wrote, versions-part}
use Rattle.link_frames.proofs.write_all.Goals as goal

pub slice_bounds-write_frame-end-2 : goal.slice_bounds-write_frame-end-2
slice_bounds-write_frame-end-2 c =
    let a = c.args in
    let badges = version_badge a.values.now a.target in
    sym (ap length (laid_front badges a.number _ c.version_entries.ensures.0) ∙ built-length badges a.number)

pub slice_bounds-write_frame-end-3 : goal.slice_bounds-write_frame-end-3
slice_bounds-write_frame-end-3 c =
    let a = c.args in
    let setpoints = version_setpoint a.values.now a.target in
    sym (ap length (laid_front setpoints a.number _ c.version_entries.ensures.1) ∙ built-length setpoints a.number)

pub returns : goal.returns
returns c =
    let a = c.args in
    let laid = c.version_entries.ensures in
    let first = c.first_place-first.result in
    let many : first + a.number - first ≡ a.number = omega arith in
    wrote (All a.client a.target a.number) a.bytes.now
    (versions-part a.keys.now a.target a.number c.requires.keyed c.first_place-first.ensures many)
    (laid_front (version_badge a.values.now a.target) a.number _ laid.0)
    (laid_front (version_setpoint a.values.now a.target) a.number _ laid.1)
    c.write_frame.ensures
