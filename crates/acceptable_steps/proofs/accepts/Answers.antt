-- `acceptable_steps::accepts` meets its contract: by its number a step is one of four kinds, and each has its own test.
use Rattle.tables.specs.Lent.{tables_lent}
use Rattle.workload.specs.Cases.{at-write, at_read, at-request, at-reply}
use Rattle.acceptable_steps.proofs.accepts.Goals as goal

pub returns-then-number-panels : goal.returns-then-number-panels
returns-then-number-panels c =
    at-write (tables_lent c.args.t.now) c.args.number c.count_at-panels.ensures
    c.if-number-panels.true c.accepts_write.ensures

pub returns-then-number-panels-2 : goal.returns-then-number-panels-2
returns-then-number-panels-2 c =
    at_read (tables_lent c.args.t.now) c.args.number c.count_at-panels.ensures
    c.if-number-panels.false c.if-number-panels-2.true c.accepts_read.ensures

pub returns-then-number-panels-3 : goal.returns-then-number-panels-3
returns-then-number-panels-3 c =
    at-request (tables_lent c.args.t.now) c.args.number c.count_at-panels.ensures
    c.if-number-panels.false c.if-number-panels-2.false c.if-number-panels-3.true c.accepts_request.ensures

pub returns-else-number-panels-3 : goal.returns-else-number-panels-3
returns-else-number-panels-3 c =
    at-reply (tables_lent c.args.t.now) c.args.number c.count_at-panels.ensures
    c.if-number-panels.false c.if-number-panels-2.false c.if-number-panels-3.false c.accepts_reply.ensures
