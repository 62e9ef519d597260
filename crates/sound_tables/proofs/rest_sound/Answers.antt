-- `sound_tables::rest_sound` meets its contract: versions and log, then the clients, then the records.
use mathlib.Core.Bool.{not}
use mathlib.Core.Path.{ap}
use Rattle.ranges.specs.Tests.{fails, holds}
use Rattle.tables.specs.Lent.{tables_lent}
use Rattle.sound_tables.proofs.rest_sound.Goals as goal

pub returns-then-not-stores_sound : goal.returns-then-not-stores_sound
returns-then-not-stores_sound c =
    let u = tables_lent c.args.t.now in
    rw (fails (c.stores_sound.ensures u) (ap not c.if-not-stores_sound.true))

pub returns-then-not-clients_sound : goal.returns-then-not-clients_sound
returns-then-not-clients_sound c =
    let u = tables_lent c.args.t.now in
    rw (
      holds (c.stores_sound.ensures u) (ap not c.if-not-stores_sound.false),
      fails (c.clients_sound.ensures u) (ap not c.if-not-clients_sound.true),
    )

pub returns : goal.returns
returns c =
    let u = tables_lent c.args.t.now in
    rw (
      holds (c.stores_sound.ensures u) (ap not c.if-not-stores_sound.false),
      holds (c.clients_sound.ensures u) (ap not c.if-not-clients_sound.false),
    ) (c.history_sound.ensures u)
