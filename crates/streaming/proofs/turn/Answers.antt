-- Bytes come in, or a line is answered.
use Rattle.std.proofs.Common.{arith, sym, ◌∙◌}
use Rattle.std.proofs.lemmas.Result.{IfOk-weaker, err_from_is_err_and}
use Rattle.tables.specs.Lent.{tables_in}
use Rattle.window.specs.WindowLaws.{lacking, wants, ready-fits, ready_room}
use Rattle.window.specs.Refills.{drop-take}
use Rattle.turn.specs.Turns.{turned-read}
use Rattle.turn.proofs.TurnsMade.{turned-made}
use Rattle.streaming.proofs.turn.Goals as goal

pub read_on-requires-clause-from_le_held : goal.read_on-requires-clause-from_le_held
read_on-requires-clause-from_le_held c =
    let g = c.requires.going.0 in
    let e = lacking _ _ (sym c.lacks_end.ensures ∙ c.if-lacks_end.true) in
    (g.from, (omega (arith, g.held, g.window_length), omega (arith, e.0, e.1, g.window_length)))

pub returns-then-lacks_end-clause-turned : goal.returns-then-lacks_end-clause-turned
returns-then-lacks_end-clause-turned c =
    let a = c.args in
    let p = c.requires in
    let t = tables_in a.press.now in
    let lacks = sym c.lacks_end.ensures ∙ c.if-lacks_end.true in
    IfOk-weaker c.read_on.result _ _
    (λ r k. turned-read a.run a.window.now a.out.now t p.going.0 p.playable p.going.1 _ c.line_at-line.ensures lacks r _ k c.read_on.auto.window)
    c.read_on.ensures.read

pub returns-then-lacks_end-clause-failed_window : goal.returns-then-lacks_end-clause-failed_window
returns-then-lacks_end-clause-failed_window c =
    let a = c.args in
    let g = c.requires.going in
    let lacks = sym c.lacks_end.ensures ∙ c.if-lacks_end.true in
    let w = wants a.run a.window.now a.out.now g.0 g.1 _ c.line_at-line.ensures lacks in
    rw w c.read_on.ensures.failed

pub returns-in_err-ready-clause-failed_window : goal.returns-in_err-ready-clause-failed_window
returns-in_err-ready-clause-failed_window c =
    let a = c.args in
    let g = c.requires.going in
    let ends = sym c.lacks_end.ensures ∙ c.if-lacks_end.false in
    let w = wants a.run a.window.now a.out.now g.0 g.1 _ c.line_at-line.ensures ends in
    let p = err_from_is_err_and c.from_residual.result c.from_residual.ensures.1 in
    rw (p.1, w) (sym (drop-take a.window.now a.run.from a.run.held g.0.from (omega (arith, g.0.held, g.0.window_length))))

pub answer_line-requires-clause-line_bound : goal.answer_line-requires-clause-line_bound
answer_line-requires-clause-line_bound c =
    let g = c.requires.going in
    ready-fits c.args.run c.args.window.now c.args.out.now g.0 g.1 _ c.line_at-line.ensures c.in_ok-ready.ready c.in_ok-ready.ensures.went_on

pub answer_line-requires-clause-answer_most_in_bounds : goal.answer_line-requires-clause-answer_most_in_bounds
answer_line-requires-clause-answer_most_in_bounds c =
    let g = c.requires.going in
    ready_room c.args.run c.args.window.now c.args.out.now g.0 g.1 _ c.line_at-line.ensures c.in_ok-ready.ready c.in_ok-ready.ensures.went_on

pub returns-clause-turned : goal.returns-clause-turned
returns-clause-turned c =
    let a = c.args in
    let p = c.requires in
    let t = tables_in a.press.now in
    let ends = sym c.lacks_end.ensures ∙ c.if-lacks_end.false in
    let n = c.answer_line.new in
    turned-made a.run a.window.now a.out.now t p.going.0 p.playable p.going.1 _ c.line_at-line.ensures c.in_ok-ready.ready
    c.in_ok-ready.ensures.went_on ends c.answer_line.result n.out (tables_in n.press)
    c.answer_line.ensures.answered c.answer_line.auto.out
