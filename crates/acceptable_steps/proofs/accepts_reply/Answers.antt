-- `acceptable_steps::accepts_reply` meets its contract: by the content of the link and the tests of a delivery.
use Rattle.tables.specs.Lent.{tables_lent}
use Rattle.workload.specs.Cases.{found-by, reply-other, reply_there}
use Rattle.acceptable_steps.proofs.accepts_reply.Goals as goal

pub returns-in-Reply : goal.returns-in-Reply
returns-in-Reply c =
    let a = c.args in
    let t = a.t.now in
    reply_there (tables_lent t) a.client a.target c.link_at-link.ensures c.in-Reply.is
    (found-by _ c.is_ok.ensures.value
    (c.delivery_fault.ensures t.clients.now t.links.now t.keys.now t.values.now t.log.now t.writes.now t.reads.now))

pub returns-in_default : goal.returns-in_default
returns-in_default c =
    reply-other (tables_lent c.args.t.now) c.args.client c.args.target c.link_at-link.ensures c.in_default.not-Reply
