-- An accepted begin of a WRITE keeps sound tables sound: the client sends a round, and its record stands in the next place.
use Rattle.std.specs.Prelude.{ℕ, ◌+◌, ◌≤◌, ◌<◌, ◌≡◌, refl, true, false, ◌&&◌, List, [], ◌∷◌, get_or, eqb}
use Rattle.std.proofs.Common.{sym, ◌∙◌, arith}
use Rattle.ranges.specs.Tests.{by_equal}
use Rattle.ranges.specs.Sum.{sum_below}
use Rattle.ranges.specs.SumLaws.{sum-set, sum-part}
use Rattle.keys.specs.Keys.{key_of}
use Rattle.keys.specs.Masks.{has_server}
use Rattle.keys.specs.MaskLaws.{some-server}
use Rattle.tables.specs.Rows.{HasRow}
use Rattle.tables.specs.Layout.{writes_field, reads_field, client_width, client_word, record_places, record_width, client_of_record, count_field}
use Rattle.tables.specs.Layout.{mask_field, number_of_record, received_field, record_field, setpoints_field, state_field, tag_field, tag_of_record}
use Rattle.tables.specs.Layout.{badge_of_record, write_badge_field}
use Rattle.tables.specs.Links.{targets, HasLinks, link_width, content_words}
use Rattle.tables.specs.declared.links.Content.{Content}
use Rattle.tables.specs.Tables.{Tables, tables_of, method_of, servers_of, clients_of, step_of, writes_of, reads_of, state_of, count_of, mask_of}
use Rattle.tables.specs.Tables.{record_of, received_of, write_badge_of}
use Rattle.rules.specs.Words.{every}
use Rattle.rules.specs.WordsLaws.{kept_other, kept-length}
use Rattle.rules.specs.Common.{writing, set_request, begun_counts, begun_records}
use Rattle.rules.specs.Begin.{next_count, stored_setpoints, sent_sets, begun_write}
use Rattle.soundness.specs.Sound.{is_writing, is_reading, uses}
use Rattle.soundness.specs.Facts.{ClientFacts, WriteFacts, RecordsFacts, Sound}
use Rattle.soundness.specs.Room.{few_servers, client-fits, client-row, client-links, next-write}
use Rattle.keeping.specs.Accepted.{Beginnable, Writable}
use Rattle.keeping.specs.Links.{link_word}
use Rattle.keeping.specs.States.{masked_below, not-all, received_none, allowed-writing, uses-writing, request-writing}
use Rattle.keeping.specs.States.{carried-badge, asks_none, own-count}
use Rattle.keeping.specs.Frame.{Kept, write_kept, read_kept}
use Rattle.keeping.specs.Moves.{Moves, moves-numbers, same_entries}
use Rattle.keeping.specs.Records.{begun-word, begun-here, begun_places, records-begun, records-idle}
use Rattle.keeping.specs.Rows.{put, Put, put_all, last_put, put-read, put_skip, put_elsewhere, put-length}
use Rattle.keeping.specs.Rounds.{Sent, sent-client, idle-empty, sent_there, sent-not, sent_others, sent-length}
use Rattle.keeping.specs.Begins.{begun_other, begun_more, begun_step, begun-length}

-- A begin of a WRITE, whatever rows and links it leaves.
module _ (q mask badge : ℕ) (clients' links' : List ℕ) (t : Tables) (s : Sound t) (b : Beginnable q mask t)
    (few : writes_of t < record_places)
    (fits : badge < 65536) where
  abbrev pub wrote : Tables
  wrote =
      tables_of (begun_counts writes_field t.counts) clients' links' t.keys t.values t.log
      (begun_records writes_field t.counts q (next_count t q) badge t.writes) t.reads

  pub more-writes : writes_of wrote ≡ writes_of t + 1
  more-writes = begun_more writes_field t.counts s.long.counts (omega arith) (λ e. omega arith)

  pub same_reads : reads_of wrote ≡ reads_of t
  same_reads = begun_other writes_field t.counts s.long.counts (omega arith) (λ e. omega arith) reads_field (λ e. omega arith) (λ e. omega arith)

  record_room : HasRow record_width t.writes (writes_of t)
  record_room = next-write t s few

  -- counts are few, since all together are
  pub next_few : next_count t q ≤ 255
  next_few = omega (arith, sum-part (count_of t) (clients_of t) q b.client, s.counts)

  module _ (m : Moves q t wrote) (state : state_of wrote q ≡ writing) (count : count_of wrote q ≡ next_count t q) (place : record_of wrote q ≡ writes_of t) (c : ClientFacts wrote q) where
    pub wrote-sum : sum_below (count_of wrote) (clients_of t) ≡ writes_of wrote
    wrote-sum = omega (arith, sum-set (count_of wrote) (count_of t) (clients_of t) q b.client (λ p h d. m.row p count_field d (omega arith)), s.counts, more-writes)

    pub wrote_record : (n : ℕ) → n < writes_of t + 1 → WriteFacts wrote n
    wrote_record n h =
        let num = moves-numbers q t wrote m in
        let new = begun-here t.writes (writes_of t) q (next_count t q) (step_of t + 1) badge in
        let kept = begun-word t.writes (writes_of t) q (next_count t q) (step_of t + 1) badge n in
        by_equal n (writes_of t)
        (λ e. rw e (record {
          client = rw (new client_of_record (omega arith) record_room, num.clients) b.client;
          count = rw (new number_of_record (omega arith) record_room) (record { least = omega arith; most = next_few });
          tag = rw (new tag_of_record (omega arith) record_room, same_entries q t wrote m) s.scalars.entries.least;
          badge = rw (new badge_of_record (omega arith) record_room) fits;
        }))
        (λ d. let l : n < writes_of t = omega arith in
        write_kept t wrote num n (kept client_of_record (omega arith) d) (kept number_of_record (omega arith) d)
        (kept badge_of_record (omega arith) d)
        (rw (kept tag_of_record (omega arith) d, same_entries q t wrote m) (s.write n l).tag) (s.write n l))

    pub wrote_records : (p : ℕ) → p < clients_of t → RecordsFacts wrote p
    wrote_records p h =
        record {
          write = rw more-writes (records-begun is_writing q t wrote t.writes (writes_of t) (λ x d. m.row x state_field d (omega arith)) (λ x d. m.row x record_field d (omega arith)) (λ x g. (s.records x g).write) (next_count t q) (step_of t + 1) badge record_room (rw b.free) (rw state) place p h);
          read = rw same_reads (records-idle is_reading q t wrote t.reads (reads_of t) (λ x d. m.row x state_field d (omega arith)) (λ x d. m.row x record_field d (omega arith)) (λ x g. (s.records x g).read) (rw b.free) (rw state) p h);
        }

-- "Begin a WRITE: next count; a request to each masked station; state 1."
module _ (q mask badge : ℕ) (setpoints : List ℕ) (t : Tables) (s : Sound t) (b : Beginnable q mask t) (few : writes_of t < record_places)
    (part : (eqb (method_of t) 1 && eqb q 0) ≡ false) (fits : badge < 65536) where
  abbrev pub puts : List Put
  puts =
      put state_field writing
      ∷ put mask_field mask
      ∷ put record_field (writes_of t)
      ∷ put count_field (next_count t q)
      ∷ put write_badge_field badge
      ∷ []

  abbrev pub after : Tables
  after =
      wrote q mask badge
      (stored_setpoints q setpoints (servers_of t) (put_all puts q t.clients))
      (sent_sets q mask (key_of (next_count t q) q) badge setpoints (servers_of t) t.links)
      t s b few fits

  pub servers_few : servers_of t ≤ targets
  servers_few = omega (arith, few_servers t s)

  pub setpoints_room : setpoints_field + servers_of t ≤ received_field
  setpoints_room = omega (arith, few_servers t s)

  links_room : HasLinks t.links q
  links_room = client-links t s q b.client

  pub spared : (p g : ℕ) → g < client_width → ((p ≡ q) × (setpoints_field ≤ g) × (g < setpoints_field + servers_of t) → ⊥) → client_word after.clients p g ≡ client_word (put_all puts q t.clients) p g
  spared p g h d =
      kept_other setpoints_field every (λ i. get_or setpoints i 0) q (servers_of t) (omega (arith, setpoints_room))
      (put_all puts q t.clients) p g h d

  pub word : (g : ℕ) → g < setpoints_field → client_word after.clients q g ≡ last_put puts (client_word t.clients q g) g
  word g h = spared q g (omega arith) (λ y. omega (arith, y.1)) ∙ put-read q puts t.clients g (client_word t.clients q g) (client-row t s q b.client) refl (omega arith) refl

  -- from the setpoints on, only the badge is put
  pub unput : (g : ℕ) → setpoints_field ≤ g → (g ≡ write_badge_field → ⊥) →
      client_word (put_all puts q t.clients) q g ≡ client_word t.clients q g
  unput g h d = put_skip q puts t.clients g (λ e. omega arith, (λ e. omega arith, (λ e. omega arith, (λ e. omega arith, (d, tt)))))

  pub none_received : (i : ℕ) → i < targets → received_of after q i ≡ 0
  none_received i h =
      let c = s.client q b.client in
      spared q (received_field + i) (omega arith) (λ y. omega (arith, y.2, setpoints_room))
      ∙ (unput (received_field + i) (omega arith) (λ e. omega arith)
      ∙ received_none t q i (not-all t q i (λ e. omega (arith, b.free))) (c.received i h))

  -- the request to a server: the key, the badge and its setpoint
  abbrev set : ℕ → Content
  set i = set_request (key_of (next_count t q) q) badge (get_or setpoints i 0)

  pub sent : (i f : ℕ) → f < link_width → i < servers_of t → has_server mask i ≡ true → link_word after.links q i f ≡ get_or (content_words (set i)) f 0
  sent i f g h e = sent_there q (servers_of t) (has_server mask) set t.links servers_few links_room f g i h e

  pub unsent : (i f : ℕ) → f < link_width → has_server mask i ≡ false → link_word after.links q i f ≡ link_word t.links q i f
  unsent i f g e = sent-not q (servers_of t) (has_server mask) set t.links servers_few links_room f g i e

  pub begun-moves : Moves q t after
  begun-moves =
      record {
        count = λ f d e g. begun_other writes_field t.counts s.long.counts (omega arith) (λ z. omega arith) f d e;
        keys = refl;
        values = refl;
        log = refl;
        row = λ p f d h. spared p f h (λ y. d y.0) ∙ put_elsewhere q puts t.clients p f refl h d;
        link = λ p i f d h g. sent_others q (servers_of t) (has_server mask) set t.links servers_few links_room f g p i d h;
        lengths = record {
          counts = begun-length writes_field t.counts s.long.counts (omega arith) (λ z. omega arith);
          clients =
              kept-length setpoints_field every (λ i. get_or setpoints i 0) q (servers_of t) (omega (arith, setpoints_room))
              (put_all puts q t.clients)
              ∙ put-length q puts t.clients;
          links = sent-length q (servers_of t) (has_server mask) set t.links servers_few links_room;
          keys = refl;
          values = refl;
          log = refl;
          writes = begun_places t.writes (writes_of t) q (next_count t q) (step_of t + 1) badge;
          reads = refl;
        };
      }
