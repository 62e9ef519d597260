-- `workload_exports::load_play` meets its contract: the numbers are the load's, and `play_load` leaves list and tables.
use Rattle.std.proofs.Common.{rules}
use Rattle.load_numbers.specs.Numbers.{load-crossed}
use Rattle.tables.specs.Tables.{tables_of}
use Rattle.workload_exports.proofs.load_play.Goals as goal

pub returns : goal.returns
returns c =
    let a = c.args in
    let crossed = load-crossed a.seed a.wanted a.list.now
    (tables_of a.counts.now a.clients.now a.links.now a.keys.now a.values.now a.log.now a.writes.now a.reads.now)
    c.of_load.ensures c.play_load-load.ensures.played in
    search (rules, crossed)
