-- `acceptable_steps::accepts_write` meets its contract: nothing is wrong with a WRITE of all servers.
use Rattle.std.proofs.Common.{[]}
use Rattle.tables.specs.Lent.{tables_lent}
use Rattle.workload.specs.Cases.{by-write, found-by}
use Rattle.acceptable_steps.proofs.accepts_write.Goals as goal

pub returns : goal.returns
returns c =
    let a = c.args in
    let t = a.t.now in
    by-write (tables_lent t) a.client c.count_at-servers.ensures c.all_servers-all.ensures
    (found-by _ c.is_ok.ensures.value
    (c.write_fault.ensures t.links.now t.keys.now t.values.now t.log.now t.writes.now t.reads.now))
