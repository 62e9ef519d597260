-- `sound_tables::tables_long` meets its contract: counts too short, or the lengths for what they name.
use Rattle.tables.specs.Tables.{servers_of, clients_of}
use Rattle.sound_tables.specs.There.{short_counts}
use Rattle.tables.specs.Lent.{tables_lent}
use Rattle.sound_tables.proofs.tables_long.Goals as goal

pub returns-then-t-lt-WORDS : goal.returns-then-t-lt-WORDS
returns-then-t-lt-WORDS c =
    let u = tables_lent c.args.t.now in
    short_counts (servers_of u) (clients_of u) u c.if-t-lt-WORDS.true

pub returns : goal.returns
returns c = rw (← c.count_at-servers.ensures, ← c.count_at-rows.ensures) c.long_enough.ensures
