-- Of specs/Moves: what cites a theorem there that a changed definition can make fail.
use Rattle.std.specs.Prelude.{ℕ, ◌+◌, ◌≤◌, ◌<◌, ◌≡◌, List, length}
use Rattle.std.proofs.Common.{ap, arith, length-set, get_or-set_same, get_or-set_other}
use Rattle.ranges.specs.Sum.{sum_below}
use Rattle.tables.specs.Rows.{word_at}
use Rattle.tables.specs.Layout.{last_step, count_words, count_at, step_field, writes_field, reads_field, held_field, record_places, client_width}
use Rattle.tables.specs.Layout.{client_word, version_word, value_width, value_row, entry_width, clients_field, entries_field, method_field}
use Rattle.tables.specs.Layout.{servers_field}
use Rattle.tables.specs.Links.{targets, link_width}
use Rattle.tables.specs.Tables.{Tables, clients_of, step_of, entries_of, writes_of, reads_of, held_of, count_of}
use Rattle.rules.specs.Common.{counted}
use Rattle.soundness.specs.Sound.{holding}
use Rattle.soundness.specs.Facts.{Between, ClientFacts, WriteFacts, ReadFacts, RecordsFacts, Sound}
use Rattle.keeping.specs.Links.{link_word}
use Rattle.keeping.proofs.Frame.{kept}
use Rattle.keeping.specs.Frame.{Numbers, Lengths, Grows, Kept}
use Rattle.keeping.specs.Moves.{Anew, Moves, moves_grows, same_entries, same_held}

pub moved-kept : (q : ℕ) (t t' : Tables) → Sound t → Moves q t t' → Anew q t t' → Kept q t t'
moved-kept q t t' s m a =
    kept q t t' s (moves_grows q t t' m)
    (record {
      step = a.step;
      entries = rw (same_entries q t t' m) s.scalars.entries.most;
      writes = a.writes;
      reads = a.reads;
      held = λ i h. rw (same_held q t t' m i) (s.server i h).held.most;
      key = λ i place h l g. let z : ⊥ = omega (arith, same_held q t t' m i) in absurd z;
      badge = λ i place h l g. let z : ⊥ = omega (arith, same_held q t t' m i) in absurd z;
      entry = λ tag l g. let z : ⊥ = omega (arith, same_entries q t t' m) in absurd z;
      client = a.client;
      counts = a.counts;
      write = a.write;
      read = a.read;
      records = a.records;
    })
