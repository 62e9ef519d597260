-- What a delivered request appends, a version or a log entry, keeps sound tables sound.
use Rattle.std.specs.Prelude.{ℕ, ◌+◌, ◌*◌, ◌≤◌, ◌<◌, ◌≡◌, refl, true, List, [], ◌∷◌, set}
use Rattle.std.proofs.Common.{arith, length-set, get_or-set_same, get_or-set_other}
use Rattle.ranges.specs.Tests.{by_equal}
use Rattle.keys.specs.declared.Key.{Key}
use Rattle.keys.specs.Keys.{key_word}
use Rattle.keys.specs.Masks.{Within}
use Rattle.tables.specs.Rows.{word_same, word_other, row_same, row_other, row-length}
use Rattle.tables.specs.Layout.{count_at, entries_field, held_field, server_places, log_places, version_word, version_badge, entry_width}
use Rattle.tables.specs.Layout.{record_word, put_entry}
use Rattle.tables.specs.Layout.{client_of_record, number_of_record, tag_of_record, badge_of_record}
use Rattle.tables.specs.Layout.{clients_field, method_field, reads_field, servers_field, step_field, writes_field}
use Rattle.tables.specs.Values.{badge-same, value_other, value-length}
use Rattle.tables.specs.Tables.{Tables, servers_of, clients_of, step_of, entries_of, writes_of, held_of, record_of}
use Rattle.server.specs.Held.{stored}
use Rattle.coordinator.specs.Log.{enter_left}
use Rattle.rules.specs.Request.{stored_by, entered_by}
use Rattle.soundness.specs.Sound.{key_in_range}
use Rattle.soundness.specs.Facts.{EntryFacts, WriteFacts, Sound}
use Rattle.soundness.specs.Room.{few_servers, server-fits, keys-row, values-row, next-entry}
use Rattle.keeping.specs.Frame.{Numbers, Grows, Kept, write_kept, read_kept}
use Rattle.keeping.specs.Records.{tagged-word, tagged_other, tagged-here, tagged_open, open_kept}

-- a version behind those that server i holds
module _ (q i : ℕ) (key : Key) (badge setpoint : ℕ) (t : Tables) (s : Sound t) (client : q < clients_of t) (server : i < servers_of t)
    (room : held_of t i < server_places) (good : key_in_range (clients_of t) (key_word key) ≡ true) (small : badge < 65536) where
  abbrev pub after : Tables
  after = stored_by (stored t.counts t.keys t.values i key badge setpoint) t

  pub same : (f : ℕ) → (f ≡ held_field + i → ⊥) → count_at after.counts f ≡ count_at t.counts f
  same f d = get_or-set_other t.counts (held_field + i) f _ 0 d

  pub stored_step : step_of after ≡ step_of t
  stored_step = same step_field (λ e. omega arith)

  pub one_more : held_of after i ≡ held_of t i + 1
  one_more = get_or-set_same t.counts (held_field + i) _ 0 (omega (arith, server-fits t s i server, s.long.counts))

  pub held_other : (j : ℕ) → (j ≡ i → ⊥) → held_of after j ≡ held_of t j
  held_other j d = same (held_field + j) (λ e. d (omega arith))

  pub stored-numbers : Numbers t after
  stored-numbers =
      record {
        method = same method_field (λ e. omega arith);
        servers = same servers_field (λ e. omega arith);
        clients = same clients_field (λ e. omega arith);
        entries = omega (arith, same entries_field (λ e. omega arith));
        held = λ j h. by_equal j i (λ e. rw e (omega (arith, one_more))) (λ d. omega (arith, held_other j d));
      }

  -- a version held stays, in either table
  module _ (j place : ℕ) (h : j < servers_of t) (l : place < held_of t j) where
    within : place < server_places
    within = omega (arith, (s.server j h).held.most)

    apart : (j ≡ i) × (place ≡ held_of t i) → ⊥
    apart e = let z : held_of t j ≡ held_of t i = rw e.0 in omega (arith, e.1)

    key-kept : version_word after.keys j place ≡ version_word t.keys j place
    key-kept = word_other server_places t.keys i (held_of t i) (key_word key) j place room within apart

  pub stored_grows : Grows q t after
  stored_grows =
      record {
        numbers = stored-numbers;
        lengths =
            record {
              counts = length-set t.counts _ _;
              clients = refl;
              links = refl;
              keys = length-set t.keys _ _;
              values = value-length t.values i (held_of t i) badge setpoint;
              log = refl;
              writes = refl;
              reads = refl;
            };
        row = λ p f d h. refl;
        link = λ p j f d h l. refl;
        key = key-kept;
        value = λ j place f h l g. value_other t.values i (held_of t i) badge setpoint j place f room (within j place h l) (apart j place h l) g;
        entry = λ tag f h l. refl;
      }

  pub new_key : (j place : ℕ) → held_of t j ≤ place → place < held_of after j → key_in_range (clients_of t) (version_word after.keys j place) ≡ true
  new_key j place h l =
      by_equal j i
      (λ e.
      let z : held_of t j ≡ held_of t i = rw e in
      let y : held_of after j ≡ held_of after i = rw e in
      let here : place ≡ held_of t i = omega (arith, one_more) in
      rw (e, here, word_same server_places t.keys i (held_of t i) (key_word key) (keys-row t s i server) room) good)
      (λ d. let z : ⊥ = omega (arith, held_other j d) in absurd z)

  pub new-badge : (j place : ℕ) → held_of t j ≤ place → place < held_of after j → version_badge after.values j place < 65536
  new-badge j place h l =
      by_equal j i
      (λ e.
      let z : held_of t j ≡ held_of t i = rw e in
      let y : held_of after j ≡ held_of after i = rw e in
      let here : place ≡ held_of t i = omega (arith, one_more) in
      rw (e, here, badge-same t.values i (held_of t i) badge setpoint (omega (arith, values-row t s i server))) small)
      (λ d. let z : ⊥ = omega (arith, held_other j d) in absurd z)

-- an entry behind those of the log, and its tag in the record of the WRITE
module _ (q : ℕ) (key : Key) (mask : ℕ) (t : Tables) (s : Sound t) (client : q < clients_of t)
    (room : entries_of t < log_places) (good : key_in_range (clients_of t) (key_word key) ≡ true) (within : Within mask (servers_of t)) where
  abbrev pub longer : Tables
  longer = entered_by (enter_left true (set t.counts entries_field (entries_of t + 1)) (put_entry t.log (entries_of t) key mask)) q t

  abbrev pub row : List ℕ
  row = key_word key ∷ mask ∷ []

  pub alike : (f : ℕ) → (f ≡ entries_field → ⊥) → count_at longer.counts f ≡ count_at t.counts f
  alike f d = get_or-set_other t.counts entries_field f _ 0 d

  pub entered_step : step_of longer ≡ step_of t
  entered_step = alike step_field (λ e. omega arith)

  pub entry_more : entries_of longer ≡ entries_of t + 1
  entry_more = get_or-set_same t.counts entries_field _ 0 (omega (arith, s.long.counts))

  pub held_alike : (j : ℕ) → held_of longer j ≡ held_of t j
  held_alike j = alike (held_field + j) (λ e. omega arith)

  pub entered-numbers : Numbers t longer
  entered-numbers =
      record {
        method = alike method_field (λ e. omega arith);
        servers = alike servers_field (λ e. omega arith);
        clients = alike clients_field (λ e. omega arith);
        entries = omega (arith, entry_more);
        held = λ j h. omega (arith, held_alike j);
      }

  pub new-entry : (tag : ℕ) → entries_of t ≤ tag → tag < entries_of longer → EntryFacts longer tag
  new-entry tag h l =
      let here : tag ≡ entries_of t = omega (arith, entry_more) in
      let has = next-entry t s room in
      rw here (record {
        key = rw (alike clients_field (λ e. omega arith), row_same entry_width t.log (entries_of t) row 0 has (omega arith) (omega arith)) good;
        mask = rw (alike servers_field (λ e. omega arith), row_same entry_width t.log (entries_of t) row 1 has (omega arith) (omega arith)) within;
      })

  -- every record's tag is within the longer log, the new one too
  pub tag-within : (n : ℕ) → n < writes_of t → record_word longer.writes n tag_of_record < entries_of longer
  tag-within n h =
      by_equal n (record_of t q)
      (λ e. rw (e, tagged-here t.writes (record_of t q) (entries_of t) (omega (arith, s.scalars.writes, s.long.writes)), entry_more) (omega arith))
      (λ d. rw (tagged_other t.writes (record_of t q) (entries_of t) n tag_of_record (omega arith) d, entry_more) (omega (arith, (s.write n h).tag)))
