-- The part from the line's start to its end is the line; past the text it is empty.
use Rattle.schedule.specs.LineLaws.{line_past, line-part, end-within}
use native.Mathlib.Omega.{arith}
use Rattle.line_reading.proofs.line_at.Goals as goal

pub returns-then-text-start : goal.returns-then-text-start
returns-then-text-start c = line_past _ _ c.if-text-start.true

pub slice_bounds-result-end-2 : goal.slice_bounds-result-end-2
slice_bounds-result-end-2 c = omega (arith, end-within c.args.text.now c.args.start c.if-text-start.false)

pub returns : goal.returns
returns c = line-part _ _ _ c.line_end-end.ensures
