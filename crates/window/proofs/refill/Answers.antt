-- What was held, and behind it what came, or a byte 10 at the end of the text.
use Rattle.std.proofs.Common.{arith, ◌∙◌}
use Rattle.std.proofs.lemmas.Result.{err_from_is_err_and}
use Rattle.window.specs.Refills.{held_front, came-none, came-end, came-more}
use Rattle.window.proofs.refill.Goals as goal

pub returns-in_err-came-clause-failed : goal.returns-in_err-came-clause-failed
returns-in_err-came-clause-failed c =
    let p = err_from_is_err_and c.from_residual.result c.from_residual.ensures.1 in
    rw p.1
    (held_front c.args.window.now c.args.from c.args.held c.requires.0 c.requires.1.0 _ 0 _ _ c.slide-rest.ensures.0 c.slide-rest.ensures.1
    c.read_behind.ensures.kept (c.read_behind.auto.window ∙ c.slide-rest.auto.window))

pub returns-then-rest-eq0-clause-came : goal.returns-then-rest-eq0-clause-came
returns-then-rest-eq0-clause-came c =
    came-none c.args.window.now c.args.from c.args.held c.requires.0 c.requires.1.0 _ 0 _ _ c.slide-rest.ensures.0 c.slide-rest.ensures.1
    c.read_behind.ensures.kept (c.read_behind.auto.window ∙ c.slide-rest.auto.window) c.if-rest-eq0.true

pub returns-then-came-eq0-clause-came : goal.returns-then-came-eq0-clause-came
returns-then-came-eq0-clause-came c =
    came-end c.args.window.now c.args.from c.args.held c.requires.0 c.requires.1.0 _ 0 _ _ c.slide-rest.ensures.0 c.slide-rest.ensures.1
    c.read_behind.ensures.kept (c.read_behind.auto.window ∙ c.slide-rest.auto.window) (omega arith)

pub returns-clause-came : goal.returns-clause-came
returns-clause-came c =
    came-more c.args.window.now c.args.from c.args.held c.requires.0 c.requires.1.0 _ _ _ _ c.slide-rest.ensures.0 c.slide-rest.ensures.1
    c.read_behind.ensures.kept (c.read_behind.auto.window ∙ c.slide-rest.auto.window) (omega (arith, c.in_ok-came.ensures.within))
    (omega arith)
