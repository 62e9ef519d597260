-- `sound_steps::begin_write_sound` meets its contract: a cause refuses, and where there is none sound tables are ready for the inner step.
use Rattle.tables.specs.Tables.{tables_of}
use Rattle.sound_steps.specs.Ready.{write-ready}
use Rattle.sound_steps.specs.Cases.{write-refused, write_able, write-accepted}
use Rattle.std.proofs.lemmas.Result.{err_from_is_err_and}
use Rattle.sound_steps.proofs.begin_write_sound.Goals as goal

pub returns-in_err-write_fault : goal.returns-in_err-write_fault
returns-in_err-write_fault c =
    let a = c.args in
    let p = err_from_is_err_and c.from_residual.result c.from_residual.ensures.1 in
    rw (p.1, p.2)
    (write-refused _ c.requires _ _ _ _
    (c.in_err-write_fault.ensures a.links.now a.keys.now a.values.now a.log.now a.writes.now a.reads.now) a.badge)

pub begin_write-requires : goal.begin_write-requires
begin_write-requires c =
    let a = c.args in
    let t = tables_of a.counts.now a.clients.now a.links.now a.keys.now a.values.now a.log.now a.writes.now a.reads.now in
    write-ready t c.requires a.client a.mask a.setpoints.now
    (write_able t c.requires a.client a.mask a.setpoints.now
    (c.in_ok-write_fault.ensures a.links.now a.keys.now a.values.now a.log.now a.writes.now a.reads.now))

pub returns : goal.returns
returns c =
    let a = c.args in
    write-accepted _ c.requires _ _ _
    (c.in_ok-write_fault.ensures a.links.now a.keys.now a.values.now a.log.now a.writes.now a.reads.now)
    a.badge c.ranges.badge.fits (c.begin_write.ensures a.keys.now a.values.now a.log.now a.reads.now)
