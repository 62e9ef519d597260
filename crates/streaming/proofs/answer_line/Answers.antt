-- A line that is answered already is only passed.
use Rattle.std.proofs.Common.{arith}
use Rattle.tables.specs.Lent.{tables_in}
use Rattle.turn.specs.Answers.{skipped, newly-answered}
use Rattle.streaming.proofs.answer_line.Goals as goal

pub returns-then-run-clause-answered : goal.returns-then-run-clause-answered
returns-then-run-clause-answered c =
    let a = c.args in
    skipped a.run c.pass.result a.line.now (tables_in a.press.now) a.out.now (omega arith) c.if-run.true c.pass.ensures

pub returns-clause-answered : goal.returns-clause-answered
returns-clause-answered c =
    let a = c.args in
    let n = c.play_line-used.new in
    newly-answered a.run c.pass-2.result a.line.now (tables_in a.press.now) a.out.now c.play_line-used.result n.out
    (tables_in n.press) c.if-run.false c.play_line-used.ensures.line_played c.pass-2.ensures
