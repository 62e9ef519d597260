-- The first two conditions of `sound` give all that the other parts of the check ask before they read.
use Rattle.std.specs.Prelude.{ℕ, ◌≤◌, ◌<◌, ◌≡◌, true, false, cond, eqb, length}
use Rattle.std.proofs.Common.{arith}
use Rattle.ranges.specs.Tests.{by-test}
use Rattle.std.proofs.lemmas.Bool.{lt-leb}
use Rattle.tables.specs.Layout.{count_words}
use Rattle.tables.specs.Tables.{Tables, method_of, servers_of, clients_of}
use Rattle.soundness.specs.Sound.{long_enough, scalars_sound}
use Rattle.soundness.specs.Facts.{long_facts, scalars_facts}
use Rattle.soundness.specs.Asked.{Counted, TablesThere}

-- counts that are too short make the tables too short, whatever they say
pub short_counts : (k p : ℕ) (t : Tables) → length t.counts < count_words → false ≡ long_enough k p t
unfolding long_enough
short_counts k p t h = rw (lt-leb _ _ h)

-- by method 1 there are two clients at least, and else one
some-client : (method : ℕ) {p : ℕ} → cond (eqb method 1) 2 1 ≤ p → 0 < p
some-client method {p} = by-test (eqb method 1) (λ e h. let two : 2 ≤ p = rw e at h in omega arith) (λ e h. let one : 1 ≤ p = rw e at h in omega arith)

pub counted : (t : Tables) → count_words ≤ length t.counts → scalars_sound t ≡ true → Counted t.counts
counted t h e =
    let f = scalars_facts t e in
    record {
      long = h;
      servers = f.press.servers.most;
      clients = f.press.clients.most;
      client = some-client (method_of t) f.press.clients.least;
      entries = f.entries.most;
      writes = f.writes;
      reads = f.reads;
    }

pub tables_there : (t : Tables) → long_enough (servers_of t) (clients_of t) t ≡ true → scalars_sound t ≡ true →
    TablesThere t.counts t.clients t.links t.keys t.values t.log t.writes t.reads
tables_there t e s =
    let l = long_facts (servers_of t) (clients_of t) t e in
    record {
      counted = counted t l.counts s;
      client = record { rows = l.clients; linked = l.links };
      stored = record { keyed = l.keys; valued = l.values };
      entered = l.log;
      written = l.writes;
      begun = l.reads;
    }
