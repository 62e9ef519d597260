-- `sound_tables::sound` meets its contract: the lengths and the scalars, which let the rest be read; then the rest.
use mathlib.Core.Bool.{not}
use mathlib.Core.Path.{ap}
use Rattle.ranges.specs.Tests.{fails, holds}
use Rattle.tables.specs.Tables.{servers_of, clients_of}
use Rattle.soundness.specs.Facts.{long_facts}
use Rattle.sound_tables.specs.There.{tables_there}
use Rattle.soundness.specs.Sound.{sound}
use Rattle.tables.specs.Lent.{tables_lent}
use Rattle.sound_tables.proofs.sound.Goals as goal

pub returns-then-not-tables_long : goal.returns-then-not-tables_long
unfolding sound
returns-then-not-tables_long c = rw (fails c.tables_long.ensures (ap not c.if-not-tables_long.true))

pub scalars_sound-requires : goal.scalars_sound-requires
scalars_sound-requires c =
    let u = tables_lent c.args.t.now in
    (long_facts (servers_of u) (clients_of u) u (holds c.tables_long.ensures (ap not c.if-not-tables_long.false))).counts

pub returns-then-not-scalars_sound : goal.returns-then-not-scalars_sound
unfolding sound
returns-then-not-scalars_sound c =
    let u = tables_lent c.args.t.now in
    rw (
      holds c.tables_long.ensures (ap not c.if-not-tables_long.false),
      fails (c.scalars_sound.ensures u) (ap not c.if-not-scalars_sound.true),
    )

pub rest_sound-requires : goal.rest_sound-requires
rest_sound-requires c =
    let u = tables_lent c.args.t.now in
    tables_there u (holds c.tables_long.ensures (ap not c.if-not-tables_long.false)) (holds (c.scalars_sound.ensures u) (ap not c.if-not-scalars_sound.false))

pub returns : goal.returns
unfolding sound
returns c =
    let u = tables_lent c.args.t.now in
    rw (
      holds c.tables_long.ensures (ap not c.if-not-tables_long.false),
      holds (c.scalars_sound.ensures u) (ap not c.if-not-scalars_sound.false),
    ) c.rest_sound.ensures
