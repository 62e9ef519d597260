-- `sound_messages::own_key` meets its contract: a count in its range, then the client.
use mathlib.Core.Bool.{not}
use mathlib.Core.Path.{ap}
use Rattle.ranges.specs.Tests.{fails, holds}
use Rattle.sound_messages.proofs.own_key.Goals as goal

pub returns-then-not-between : goal.returns-then-not-between
returns-then-not-between c = rw (fails c.between.ensures (ap not c.if-not-between.true))

pub returns : goal.returns
returns c = rw (holds c.between.ensures (ap not c.if-not-between.false))
