-- Sound tables can be scanned, and a pick among what the scan tells is the load's.
use Rattle.std.specs.Prelude.{ℕ, ◌*◌, ◌/◌, ◌≤◌, ◌<◌, ◌≡◌, Bool, true, not}
use Rattle.std.proofs.Common.{arith, mul-le-mul, mul-lt-mul_of_pos_right}
use Rattle.ranges.specs.Tests.{fails}
use Rattle.tables.specs.Tables.{Tables, servers_of}
use Rattle.soundness.specs.Sound.{sound}
use Rattle.soundness.specs.Facts.{Sound}
use Rattle.soundness.specs.Room.{few_servers, few_clients, server-fits, keys-row}
use Rattle.keeping.specs.States.{set-server, get-server}
use Rattle.workload.specs.Next.{Refused}
use Rattle.workload.specs.Load.{index_by, next_step}
use Rattle.workload.specs.Ready.{Searched, Logged, Scanned}

module _ (t : Tables) (s : Sound t) where
  searched : (i : ℕ) → i < servers_of t → Searched t.counts t.keys i
  searched i h =
      record { counted = s.long.counts; server = server-fits t s i h; held = omega (arith, keys-row t s i h, (s.server i h).held.most) }

  logged : Logged t.counts t.log
  logged = record { counted = s.long.counts; entries = omega (arith, s.long.log, s.scalars.entries.most) }

  pub scanned : Scanned t.counts t.clients t.links t.keys t.log
  scanned =
      record {
        numberable = record {
          judged = record { counted = s.long.counts; rows = s.long.clients; servers = few_servers t s };
          few = few_clients t s;
          fits = λ q h. (s.client q h).count.most;
        };
        linked = s.long.links;
        served = λ q i w h l e. record {
          counted = s.long.counts;
          set = λ z. searched i (set-server t s q i h l w e z);
          enter = λ z. logged;
          get = λ z. searched i (get-server t s q i h l w e z);
        };
      }

pub unsound-next : (t : Tables) (seed : ℕ) {b : Bool} → b ≡ sound t → not b ≡ true → Refused 2 ≡ next_step t seed
unfolding next_step
unsound-next t seed d e = rw (fails d e)

-- a number scaled down to a count stays below it
pub index_below : (number count : ℕ) → number < 4294967296 → 0 < count → index_by number count < count
index_below number count h c =
    let d : number / 65536 < 65536 = omega arith in
    let m : number / 65536 * count < 65536 * count = mul-lt-mul_of_pos_right d c in
    omega arith

pub index-fits : (number count : ℕ) → number < 4294967296 → count ≤ 576 → number / 65536 * count ≤ 37748160
index-fits number count h c = let d : number / 65536 ≤ 65535 = omega arith in mul-le-mul d c
