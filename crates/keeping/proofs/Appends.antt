-- Of specs/Appends: what cites a theorem there that a changed definition can make fail.
use Rattle.std.specs.Prelude.{ℕ, ◌+◌, ◌*◌, ◌≤◌, ◌<◌, ◌≡◌, refl, true, List, [], ◌∷◌, set}
use Rattle.std.proofs.Common.{arith, length-set, get_or-set_same, get_or-set_other}
use Rattle.ranges.specs.Tests.{by_equal}
use Rattle.keys.specs.declared.Key.{Key}
use Rattle.keys.specs.Keys.{key_word}
use Rattle.keys.specs.Masks.{Within}
use Rattle.tables.specs.Rows.{word_same, word_other, row_same, row_other, row-length}
use Rattle.tables.specs.Layout.{count_at, entries_field, held_field, server_places, log_places, version_word, version_badge, entry_width}
use Rattle.tables.specs.Layout.{record_word, put_entry}
use Rattle.tables.specs.Layout.{client_of_record, number_of_record, tag_of_record, badge_of_record}
use Rattle.tables.specs.Layout.{clients_field, method_field, reads_field, servers_field, step_field, writes_field}
use Rattle.tables.specs.Values.{badge-same, value_other, value-length}
use Rattle.tables.specs.Tables.{Tables, servers_of, clients_of, step_of, entries_of, writes_of, held_of, record_of}
use Rattle.server.specs.Held.{stored}
use Rattle.coordinator.specs.Log.{enter_left}
use Rattle.rules.specs.Request.{stored_by, entered_by}
use Rattle.soundness.specs.Sound.{key_in_range}
use Rattle.soundness.specs.Facts.{EntryFacts, WriteFacts, Sound}
use Rattle.soundness.specs.Room.{few_servers, server-fits, keys-row, values-row, next-entry}
use Rattle.keeping.proofs.Frame.{kept, client-kept}
use Rattle.keeping.specs.Frame.{Numbers, Grows, Kept, write_kept, read_kept}
use Rattle.keeping.specs.Records.{tagged-word, tagged_other, tagged-here, tagged_open, open_kept}
use Rattle.keeping.specs.Appends.{after, alike, entered-numbers, entered_step, entry_more, held_alike, held_other, longer, new-badge, new-entry, new_key, one_more, row, same, stored-numbers, stored_grows, stored_step, tag-within}

-- a version behind those that server i holds
module _ (q i : ℕ) (key : Key) (badge setpoint : ℕ) (t : Tables) (s : Sound t) (client : q < clients_of t) (server : i < servers_of t)
    (room : held_of t i < server_places) (good : key_in_range (clients_of t) (key_word key) ≡ true) (small : badge < 65536) where
  pub stored-kept : Kept q t (after q i key badge setpoint t s client server room good small)
  stored-kept =
      let entries = same q i key badge setpoint t s client server room good small entries_field (λ e. omega arith) in
      let writes = same q i key badge setpoint t s client server room good small writes_field (λ e. omega arith) in
      let reads = same q i key badge setpoint t s client server room good small reads_field (λ e. omega arith) in
      kept q t (after q i key badge setpoint t s client server room good small) s (stored_grows q i key badge setpoint t s client server room good small) (record {
        step = rw (stored_step q i key badge setpoint t s client server room good small) s.scalars.step;
        entries = rw entries s.scalars.entries.most;
        writes = rw writes s.scalars.writes;
        reads = rw reads s.scalars.reads;
        held = λ j h. by_equal j i (λ e. rw (e, one_more q i key badge setpoint t s client server room good small) (omega arith)) (λ d. rw (held_other q i key badge setpoint t s client server room good small j d) (s.server j h).held.most);
        key = λ j place h l m. new_key q i key badge setpoint t s client server room good small j place l m;
        badge = λ j place h l m. new-badge q i key badge setpoint t s client server room good small j place l m;
        entry = λ tag l m. let z : ⊥ = omega (arith, entries) in absurd z;
        client = client-kept t (after q i key badge setpoint t s client server room good small) (stored-numbers q i key badge setpoint t s client server room good small) q (few_servers t s) (λ f l. refl) (λ j f l m. refl) (s.client q client);
        counts = rw writes s.counts;
        write = λ n h. write_kept t (after q i key badge setpoint t s client server room good small) (stored-numbers q i key badge setpoint t s client server room good small) n refl refl refl (rw entries (s.write n (rw writes at h)).tag) (s.write n (rw writes at h));
        read = λ n h. read_kept t (after q i key badge setpoint t s client server room good small) (stored-numbers q i key badge setpoint t s client server room good small) n refl refl (rw entries (s.read n (rw reads at h)).tag) (s.read n (rw reads at h));
        records = λ p h. record { write = rw writes (s.records p h).write; read = rw reads (s.records p h).read };
      })

-- an entry behind those of the log, and its tag in the record of the WRITE
module _ (q : ℕ) (key : Key) (mask : ℕ) (t : Tables) (s : Sound t) (client : q < clients_of t)
    (room : entries_of t < log_places) (good : key_in_range (clients_of t) (key_word key) ≡ true) (within : Within mask (servers_of t)) where
  entered_grows : Grows q t (longer q key mask t s client room good within)
  entered_grows =
      record {
        numbers = entered-numbers q key mask t s client room good within;
        lengths = record { counts = length-set t.counts _ _; clients = refl; links = refl; keys = refl; values = refl; log = row-length entry_width t.log (entries_of t) (row q key mask t s client room good within); writes = length-set t.writes _ _; reads = refl };
        row = λ p f d h. refl;
        link = λ p j f d h l. refl;
        key = λ j place h l. refl;
        value = λ j place f h l g. refl;
        entry = λ tag f h l. row_other entry_width t.log (entries_of t) (row q key mask t s client room good within) tag f (omega arith) l (λ e. omega arith);
      }

  entered-write : (n : ℕ) → n < writes_of t → WriteFacts (longer q key mask t s client room good within) n
  entered-write n h =
      write_kept t (longer q key mask t s client room good within) (entered-numbers q key mask t s client room good within) n
      (tagged-word t.writes (record_of t q) (entries_of t) n client_of_record (omega arith) (λ e. omega arith))
      (tagged-word t.writes (record_of t q) (entries_of t) n number_of_record (omega arith) (λ e. omega arith))
      (tagged-word t.writes (record_of t q) (entries_of t) n badge_of_record (omega arith) (λ e. omega arith))
      (tag-within q key mask t s client room good within n h) (s.write n h)

  pub entered-kept : Kept q t (longer q key mask t s client room good within)
  entered-kept =
      let writes = alike q key mask t s client room good within writes_field (λ e. omega arith) in
      let reads = alike q key mask t s client room good within reads_field (λ e. omega arith) in
      kept q t (longer q key mask t s client room good within) s entered_grows (record {
        step = rw (entered_step q key mask t s client room good within) s.scalars.step;
        entries = rw (entry_more q key mask t s client room good within) (omega arith);
        writes = rw writes s.scalars.writes;
        reads = rw reads s.scalars.reads;
        held = λ j h. rw (held_alike q key mask t s client room good within j) (s.server j h).held.most;
        key = λ j place h l m. let z : ⊥ = omega (arith, held_alike q key mask t s client room good within j) in absurd z;
        badge = λ j place h l m. let z : ⊥ = omega (arith, held_alike q key mask t s client room good within j) in absurd z;
        entry = new-entry q key mask t s client room good within;
        client = client-kept t (longer q key mask t s client room good within) (entered-numbers q key mask t s client room good within) q (few_servers t s) (λ f l. refl) (λ j f l m. refl) (s.client q client);
        counts = rw writes s.counts;
        write = λ n h. entered-write n (rw writes at h);
        read = λ n h. read_kept t (longer q key mask t s client room good within) (entered-numbers q key mask t s client room good within) n refl refl (rw (entry_more q key mask t s client room good within) (omega (arith, (s.read n (rw reads at h)).tag))) (s.read n (rw reads at h));
        records = λ p h. record {
          write = rw writes (open_kept t.writes (longer q key mask t s client room good within).writes (writes_of t) p (record_of t p) (λ n l. tagged_open t.writes (record_of t q) (entries_of t) p n) _ (s.records p h).write);
          read = rw reads (s.records p h).read;
        };
      })
