-- `sound_records::counts_together` meets its contract: `total` is the sum of the counts passed, each below 2^32.
use mathlib.Core.Path.{◌≡◌}
use Prim.Native.Nat.{◌*◌, ◌≤◌}
use Rattle.ranges.specs.Sum.{sum_below}
use Rattle.tables.specs.Tables.{Tables, with_clients, count_of}
use Rattle.sound_records.proofs.counts_together.Given as goal

abbrev pub invariant-loop-client : goal.invariant-loop-client
invariant-loop-client l = (l.client ≤ l.rows) × ((l.total ≤ 4294967295 * l.client) × ((t : Tables) → l.total ≡ sum_below (count_of (with_clients l.clients t)) l.client))
