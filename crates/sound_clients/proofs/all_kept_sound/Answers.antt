-- `sound_clients::all_kept_sound` meets its contract: what is kept for the servers before `server` are sound.
use mathlib.Core.Bool.{not}
use mathlib.Core.Path.{ap}
use Rattle.soundness.specs.Loops.{passed_none, passed-more, passed_stop, passed-end}
use Rattle.sound_clients.proofs.all_kept_sound.Goals as goal

pub loop-server-init : goal.loop-server-init
loop-server-init c = passed_none

pub returns-then-not-kept_sound : goal.returns-then-not-kept_sound
returns-then-not-kept_sound c =
    passed_stop c.loop-server.invariant c.count_at-servers.ensures
    c.loop-server-test.true c.kept_sound.ensures (ap not c.if-not-kept_sound.true)

pub loop-server-preserved : goal.loop-server-preserved
loop-server-preserved c = passed-more c.loop-server.invariant c.loop-server-test.true c.kept_sound.ensures (ap not c.if-not-kept_sound.false)

pub returns : goal.returns
returns c = passed-end c.loop-server.invariant c.count_at-servers.ensures c.loop-server-test.false
