-- `acceptable_steps::accepts_read` meets its contract: nothing is wrong with a READ of all servers.
use Rattle.tables.specs.Lent.{tables_lent}
use Rattle.workload.specs.Cases.{by_read, found-by}
use Rattle.acceptable_steps.proofs.accepts_read.Goals as goal

pub returns : goal.returns
returns c =
    let a = c.args in
    let t = a.t.now in
    by_read (tables_lent t) a.client c.count_at.ensures c.all_servers-all.ensures
    (found-by _ c.is_ok.ensures.value
    (c.read_fault.ensures t.links.now t.keys.now t.values.now t.log.now t.writes.now t.reads.now))
