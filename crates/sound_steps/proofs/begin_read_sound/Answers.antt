-- `sound_steps::begin_read_sound` meets its contract: a cause refuses, and where there is none sound tables are ready for the inner step.
use Rattle.tables.specs.Tables.{tables_of}
use Rattle.soundness.specs.Room.{client-fits}
use Rattle.sound_steps.specs.Ready.{read-ready, read-begins}
use Rattle.sound_steps.specs.Cases.{read-refused, read_able, read-accepted}
use Rattle.std.proofs.lemmas.Result.{err_from_is_err_and}
use Rattle.sound_steps.proofs.begin_read_sound.Goals as goal

pub returns-in_err-read_fault : goal.returns-in_err-read_fault
returns-in_err-read_fault c =
    let a = c.args in
    let p = err_from_is_err_and c.from_residual.result c.from_residual.ensures.1 in
    rw (p.1, p.2)
    (read-refused _ c.requires _ _ _
    (c.in_err-read_fault.ensures a.links.now a.keys.now a.values.now a.log.now a.writes.now a.reads.now))

pub begin_read-requires : goal.begin_read-requires
begin_read-requires c =
    let a = c.args in
    let t = tables_of a.counts.now a.clients.now a.links.now a.keys.now a.values.now a.log.now a.writes.now a.reads.now in
    let s = c.requires in
    let r = read_able t s a.client a.mask (c.in_ok-read_fault.ensures a.links.now a.keys.now a.values.now a.log.now a.writes.now a.reads.now) in
    record {
      ask_ready = read-ready t s a.client a.mask r;
      begin_ready = (read-begins t s a.client a.mask r, client-fits t s a.client r.begin.client);
    }

pub returns : goal.returns
returns c =
    let a = c.args in
    read-accepted _ c.requires _ _
    (c.in_ok-read_fault.ensures a.links.now a.keys.now a.values.now a.log.now a.writes.now a.reads.now)
    (c.begin_read.ensures a.keys.now a.values.now a.log.now a.writes.now)
