-- The lines passed and those from here on are all lines.
use Prim.Native.Nat.{◌-◌}
use native.Mathlib.Omega.{arith}
use Rattle.schedule.specs.LineLaws.{end-within}
use Rattle.texts.specs.TextLaws.{counting-begun, counting_on, counting_done}
use Rattle.texts.proofs.count_lines.Goals as goal

pub loop-start-init : goal.loop-start-init
loop-start-init c = counting-begun _

pub overflow_add-start : goal.overflow_add-start
overflow_add-start c =
    let within = end-within c.args.text.now c.loop-start.start (omega (arith, c.loop-start-test.true)) in
    omega (arith, c.line_end-start.ensures, within, c.well_formed)

pub overflow_add-lines : goal.overflow_add-lines
overflow_add-lines c = omega (arith, c.loop-start.invariant.below, c.loop-start-test.true, c.well_formed)

pub loop-start-smaller : goal.loop-start-smaller
loop-start-smaller c = omega (arith, c.line_end-start.ensures, c.loop-start-test.true)

pub loop-start-preserved : goal.loop-start-preserved
loop-start-preserved c = counting_on _ _ c.loop-start-test.true c.line_end-start.ensures c.loop-start.invariant

pub returns : goal.returns
returns c = counting_done _ (omega (arith, c.loop-start-test.false)) c.loop-start.invariant
