-- `sound_clients::all_kept_sound` meets its contract: what is kept for the servers before `server` are sound.
use Rattle.tables.specs.Tables.{with_counts, with_clients}
use Rattle.soundness.specs.Loops.{Passed}
use Rattle.soundness.specs.Sound.{kept_sound}
use Rattle.sound_clients.proofs.all_kept_sound.Given as goal

abbrev pub invariant-loop-server : goal.invariant-loop-server
invariant-loop-server l = Passed (λ t. kept_sound (with_clients l.clients (with_counts l.counts t)) l.client) l.servers l.server
