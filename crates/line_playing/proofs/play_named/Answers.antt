-- A line's setpoints stand within the lent place, and its step is played.
use Rattle.std.proofs.Common.{sym, arith}
use lib.Seq.{length-take-le}
use Rattle.tables.specs.Lent.{tables_in}
use Rattle.playing.specs.PlayedLaws.{within-place, line-played}
use Rattle.line_playing.proofs.play_named.Goals as goal

pub slice_bounds-play_step-end : goal.slice_bounds-play_step-end
slice_bounds-play_step-end c =
    let r = c.read_step-reading in
    omega (arith, within-place _ _ _ _ r.ensures, r.auto.setpoints)

pub slice_bounds-play_step-end-2 : goal.slice_bounds-play_step-end-2
slice_bounds-play_step-end-2 c =
    let r = c.read_step-reading in
    sym (length-take-le r.result.setpoints r.new.setpoints (within-place _ _ _ _ r.ensures))

pub returns-clause-reads_after : goal.returns-clause-reads_after
returns-clause-reads_after c =
    let a = c.args in
    let r = c.read_step-reading in
    line-played a.line.now _ r.new.setpoints r.result (tables_in a.press.now) r.ensures c.play_step.ensures.shown

pub returns-clause-setpoints_after : goal.returns-clause-setpoints_after
returns-clause-setpoints_after c = c.read_step-reading.ensures.place
