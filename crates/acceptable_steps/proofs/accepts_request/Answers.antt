-- `acceptable_steps::accepts_request` meets its contract: by the content of the link, the tests of a delivery, the state of its client.
use Rattle.std.proofs.Common.{sym, ap, ◌∙◌}
use Rattle.tables.specs.Lent.{tables_lent}
use Rattle.tables.specs.declared.links.Link.{Link}
use Rattle.workload.specs.Cases.{found-by, request-other, request-judged}
use Rattle.acceptable_steps.proofs.accepts_request.Goals as goal

pub answers-requires : goal.answers-requires
answers-requires c =
    let a = c.args in
    rw c.client_word-state.ensures
    (c.requires.scanned.served a.client a.target _ c.requires.client_bound.0 c.requires.client_bound.1
    (ap (λ (k : Link). k.content) (sym c.link_at-link.ensures) ∙ c.in-Request.is))

pub returns-then-is_ok : goal.returns-then-is_ok
returns-then-is_ok c =
    let a = c.args in
    let t = a.t.now in
    request-judged (tables_lent t) a.client a.target c.link_at-link.ensures c.in-Request.is
    (found-by _ c.is_ok.ensures.value
    (c.delivery_fault.ensures t.clients.now t.links.now t.keys.now t.values.now t.log.now t.writes.now t.reads.now))
    c.client_word-state.ensures (rw c.if-is_ok.true c.answers.ensures)

pub returns-else-is_ok : goal.returns-else-is_ok
returns-else-is_ok c =
    let a = c.args in
    let t = a.t.now in
    request-judged (tables_lent t) a.client a.target c.link_at-link.ensures c.in-Request.is
    (found-by _ c.is_ok.ensures.value
    (c.delivery_fault.ensures t.clients.now t.links.now t.keys.now t.values.now t.log.now t.writes.now t.reads.now))
    c.client_word-state.ensures (rw c.if-is_ok.false)

pub returns-in_default : goal.returns-in_default
returns-in_default c =
    request-other (tables_lent c.args.t.now) c.args.client c.args.target c.link_at-link.ensures c.in_default.not-Request
