-- `sound_stores::stores_sound` meets its contract: the servers, then the log.
use mathlib.Core.Bool.{not}
use mathlib.Core.Path.{ap}
use Rattle.ranges.specs.Tests.{fails, holds}
use Rattle.tables.specs.Tables.{with_versions, with_log}
use Rattle.sound_stores.proofs.stores_sound.Goals as goal

pub returns-then-not-servers_sound : goal.returns-then-not-servers_sound
returns-then-not-servers_sound c = λ t. rw (fails (c.servers_sound.ensures (with_log c.args.log.now t)) (ap not c.if-not-servers_sound.true))

pub returns : goal.returns
returns c =
    λ t. rw (holds (c.servers_sound.ensures (with_log c.args.log.now t)) (ap not c.if-not-servers_sound.false))
    (let a = c.args in c.log_sound.ensures
    (with_versions a.keys.now a.values.now t))
