-- `sound_steps::deliver_request_sound` meets its contract: a cause refuses, and where there is none sound tables are ready for the inner step.
use Rattle.tables.specs.Tables.{tables_of}
use Rattle.sound_steps.specs.Ready.{request-ready}
use Rattle.sound_steps.specs.Cases.{request-refused, request-accepted, delivery_able}
use Rattle.std.proofs.lemmas.Result.{err_from_is_err_and}
use Rattle.sound_steps.proofs.deliver_request_sound.Goals as goal

pub returns-in_err-delivery_fault : goal.returns-in_err-delivery_fault
returns-in_err-delivery_fault c =
    let a = c.args in
    let p = err_from_is_err_and c.from_residual.result c.from_residual.ensures.1 in
    rw (p.1, p.2)
    (request-refused _ c.requires _ _ _
    (c.in_err-delivery_fault.ensures a.clients.now a.links.now a.keys.now a.values.now a.log.now a.writes.now a.reads.now))

pub deliver_request-requires : goal.deliver_request-requires
deliver_request-requires c =
    let a = c.args in
    let t = tables_of a.counts.now a.clients.now a.links.now a.keys.now a.values.now a.log.now a.writes.now a.reads.now in
    request-ready t c.requires a.client a.target
    (delivery_able t c.requires a.client a.target
    (c.in_ok-delivery_fault.ensures a.clients.now a.links.now a.keys.now a.values.now a.log.now a.writes.now a.reads.now))

pub returns : goal.returns
returns c =
    let a = c.args in
    request-accepted _ c.requires _ _
    (c.in_ok-delivery_fault.ensures a.clients.now a.links.now a.keys.now a.values.now a.log.now a.writes.now a.reads.now)
    (c.deliver_request.ensures a.reads.now)
