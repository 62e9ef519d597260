-- An accepted begin of a READ keeps sound tables sound, by each method, A's too, which the former rules accept: the client sends a round,
-- and its record stands in the next place.
use Rattle.std.specs.Prelude.{ℕ, ◌+◌, ◌≤◌, ◌<◌, ◌≡◌, refl, true, false, not, ◌&&◌, ◌||◌, List, [], ◌∷◌, length, eqb}
use Rattle.std.proofs.Common.{sym, ◌∙◌, arith}
use Rattle.std.proofs.Math.Bool.{or-true, or-false}
use borrow.Author.Tests.{eq-eqb, ne_eqb, eqb-true, eqb-false}
use Rattle.ranges.specs.Tests.{by_equal}
use Rattle.ranges.specs.Sum.{sum_below}
use Rattle.ranges.specs.SumLaws.{sum_same}
use Rattle.keys.specs.Keys.{opening}
use Rattle.keys.specs.Masks.{has_server}
use Rattle.coordinator.specs.Latest.{latest_key}
use Rattle.tables.specs.Rows.{HasRow}
use Rattle.tables.specs.Layout.{writes_field, reads_field, client_width, client_word, record_places, record_width, client_of_record, count_field, mask_field, number_of_record, received_field, record_field, setpoints_field, state_field, tag_field, tag_of_record}
use Rattle.tables.specs.Links.{targets, HasLinks, link_width}
use Rattle.tables.specs.LinkLaws.{link-length}
use Rattle.tables.specs.Tables.{Tables, method_of, servers_of, clients_of, step_of, entries_of, writes_of, reads_of, state_of, count_of, mask_of}
use Rattle.tables.specs.Tables.{record_of, received_of}
use Rattle.tables.specs.declared.links.Content.{Content}
use Rattle.rules.specs.Common.{writing, asking_keys, asking_setpoints, asking_all, coordinator, request}
use Rattle.rules.specs.Begin.{sent_gets, kept_asking, send_ask, sent_asks, asking, begun_read_with}
use Rattle.refusals.specs.Former.{last_tag, formerly_begun_read}
use Rattle.soundness.specs.Sound.{is_writing, is_reading, uses}
use Rattle.soundness.specs.Facts.{KeptFacts, ClientFacts, ReadFacts, RecordsFacts, Sound}
use Rattle.soundness.specs.Room.{few_servers, client-links, link_row_lem, next-read}
use Rattle.keeping.specs.Accepted.{neither, Beginnable, Readable}
use Rattle.keeping.specs.Links.{badge_on, link_word, put_same, put_other, put_beside}
use Rattle.keeping.specs.States.{masked_below, not-all, received_none, allowed_by-A, allowed_by-B, allowed_by-C, uses-keys}
use Rattle.keeping.specs.States.{uses-all, request-keys, request-all, no-badge}
use Rattle.keeping.specs.Frame.{Kept, write_kept, read_kept, kept_in}
use Rattle.keeping.specs.Moves.{Moves, moves-numbers, same_entries}
use Rattle.keeping.specs.Records.{begun-word, begun-here, begun_places, records-begun, records-idle}
use Rattle.keeping.specs.Rows.{put, Put, put_all, last_put}
use Rattle.keeping.specs.Asked.{Asked, asked-puts, asked-keys}
use Rattle.keeping.specs.Rounds.{Sent, sent-client, idle-empty, sent_there, sent-not, sent_others, sent-length}
use Rattle.keeping.specs.Gets.{gets-sent}
use Rattle.keeping.specs.Begins.{begun_other, begun_more, begun_step, begun-length}

-- A begin of a READ, whatever links it leaves. It puts words into the row, below the setpoints, and no count; by A it
-- keeps tags and keys too.
module _ (q mask : ℕ) (puts : List Put) (clients' links' : List ℕ) (t : Tables) (s : Sound t) (b : Beginnable q mask t) (few : reads_of t < record_places)
    (asked : Asked q puts t clients') where
  abbrev pub after : Tables
  after = begun_read_with q mask (asking clients' links') t

  pub more-reads : reads_of after ≡ reads_of t + 1
  more-reads = begun_more reads_field t.counts s.long.counts (omega arith) (λ e. omega arith)

  pub same_writes : writes_of after ≡ writes_of t
  same_writes = begun_other reads_field t.counts s.long.counts (omega arith) (λ e. omega arith) writes_field (λ e. omega arith) (λ e. omega arith)

  record_room : HasRow record_width t.reads (reads_of t)
  record_room = next-read t s few

  pub none_received : (i : ℕ) → i < targets → received_of after q i ≡ 0
  none_received i h =
      asked.beyond (received_field + i) (omega arith) (omega arith)
      ∙ received_none t q i (not-all t q i (λ e. omega (arith, b.free))) ((s.client q b.client).received i h)

  -- the links of the others stay
  begun-moves : ((p i f : ℕ) → (p ≡ q → ⊥) → i < targets → f < link_width → link_word links' p i f ≡ link_word t.links p i f) → length links' ≡ length t.links → Moves q t after
  begun-moves others long =
      record {
        count = λ f d e g. begun_other reads_field t.counts s.long.counts (omega arith) (λ z. omega arith) f d g;
        keys = refl;
        values = refl;
        log = refl;
        row = asked.elsewhere;
        link = others;
        lengths = record {
          counts = begun-length reads_field t.counts s.long.counts (omega arith) (λ z. omega arith);
          clients = asked.long;
          links = long;
          keys = refl;
          values = refl;
          log = refl;
          writes = refl;
          reads = begun_places t.reads (reads_of t) q mask (step_of t + 1) 0;
        };
      }

  module _ (m : Moves q t after) (reading : is_reading (state_of after q) ≡ true) (writes : is_writing (state_of after q) ≡ false) (count : count_of after q ≡ count_of t q)
      (place : record_of after q ≡ reads_of t) (c : ClientFacts after q) where
    pub begun-sum : sum_below (count_of after) (clients_of t) ≡ writes_of after
    begun-sum = rw same_writes (sum_same (count_of after) (count_of t) (clients_of t) (λ p h. by_equal p q (λ e. rw e count) (λ d. m.row p count_field d (omega arith))) ∙ s.counts)

    pub begun_record : (n : ℕ) → n < reads_of t + 1 → ReadFacts after n
    begun_record n h =
        let num = moves-numbers q t after m in
        let new = begun-here t.reads (reads_of t) q mask (step_of t + 1) 0 in
        let kept = begun-word t.reads (reads_of t) q mask (step_of t + 1) 0 n in
        by_equal n (reads_of t)
        (λ e. rw e (record {
          client = rw (new client_of_record (omega arith) record_room, num.clients) b.client;
          mask = rw (new number_of_record (omega arith) record_room, num.servers) b.masked;
          tag = rw (new tag_of_record (omega arith) record_room, same_entries q t after m) s.scalars.entries.least;
        }))
        (λ d. let l : n < reads_of t = omega arith in
        read_kept t after num n (kept client_of_record (omega arith) d) (kept number_of_record (omega arith) d) (rw (kept tag_of_record (omega arith) d, same_entries q t after m) (s.read n l).tag) (s.read n l))

    pub begun_records : (p : ℕ) → p < clients_of t → RecordsFacts after p
    begun_records p h =
        record {
          write = rw same_writes (records-idle is_writing q t after t.writes (writes_of t) (λ x d. m.row x state_field d (omega arith)) (λ x d. m.row x record_field d (omega arith)) (λ x g. (s.records x g).write) (rw b.free) writes p h);
          read = rw more-reads (records-begun is_reading q t after t.reads (reads_of t) (λ x d. m.row x state_field d (omega arith)) (λ x d. m.row x record_field d (omega arith)) (λ x g. (s.records x g).read) mask (step_of t + 1) 0 record_room (rw b.free) reading place p h);
        }

-- a request that carries nothing
abbrev pub ask : Content
ask = request opening 0

-- the words put into the row, by the state that the method begins with
abbrev begun_puts : ℕ → ℕ → ℕ → List Put
begun_puts state mask place = put state_field state ∷ put mask_field mask ∷ put record_field place ∷ []

module _ (q mask : ℕ) (t : Tables) (s : Sound t) (b : Beginnable q mask t) (few : reads_of t < record_places) where
  abbrev k : ℕ
  k = servers_of t

  servers_few : k ≤ targets
  servers_few = omega (arith, few_servers t s)

  pub links_room : HasLinks t.links q
  links_room = client-links t s q b.client

  pub c : ClientFacts t q
  c = s.client q b.client

  pub empty : (i : ℕ) → i < targets → link_word t.links q i 0 ≡ 0
  empty i h = idle-empty t q i c b.free h

  pub counted : count_of t q ≤ 255
  counted = c.count.most

  -- "A: take the last tag and its keys from panel 0's log, then ask each masked station for its key."
  module _ (part : method_of t ≡ 1) (reader : (eqb (method_of t) 1 && not (eqb q 0)) ≡ false) where
    abbrev pub puts_a : List Put
    puts_a = put state_field asking_setpoints ∷ put mask_field mask ∷ put record_field (reads_of t) ∷ put tag_field (last_tag t) ∷ []

    abbrev pub links_a : List ℕ
    links_a = sent_gets q mask t.log (last_tag t) k t.links

    abbrev get : ℕ → Content
    get i = request (latest_key t.log i (last_tag t)) 0

    abbrev pub row_a : List ℕ
    row_a = kept_asking q mask t.log (last_tag t) k (put_all puts_a q t.clients)

    abbrev pub after_a : Tables
    after_a = begun_read_with q mask (asking row_a links_a) t

    pub last_within : last_tag t < entries_of t
    last_within = omega (arith, s.scalars.entries.least)

    pub row_asked_a : Asked q puts_a t row_a
    row_asked_a = asked-keys q puts_a t s b.client refl refl mask (last_tag t) last_within refl

    pub word_a : (g : ℕ) → g < setpoints_field → client_word after_a.clients q g ≡ last_put puts_a (client_word t.clients q g) g
    word_a = row_asked_a.word

    pub moves_a : Moves q t after_a
    moves_a =
        begun-moves q mask puts_a row_a links_a t s b few row_asked_a
        (λ p i f d h g. sent_others q k (has_server mask) get t.links servers_few links_room f g p i d h)
        (sent-length q k (has_server mask) get t.links servers_few links_room)

  -- "B: ask the head"
  module _ (part : method_of t ≡ 2) where
    abbrev pub puts_b : List Put
    puts_b = begun_puts asking_keys mask (reads_of t)

    abbrev pub links_b : List ℕ
    links_b = send_ask q coordinator t.links

    abbrev pub row_b : List ℕ
    row_b = put_all puts_b q t.clients

    abbrev pub after_b : Tables
    after_b = begun_read_with q mask (asking row_b links_b) t

    pub row_asked_b : Asked q puts_b t row_b
    row_asked_b = asked-puts q puts_b t s b.client refl refl (λ e. omega arith)

    pub word_b : (g : ℕ) → g < setpoints_field → client_word after_b.clients q g ≡ last_put puts_b (client_word t.clients q g) g
    word_b = row_asked_b.word

    pub moves_b : Moves q t after_b
    moves_b =
        begun-moves q mask puts_b row_b links_b t s b few row_asked_b
        (λ p i f d h g. put_other t.links q coordinator ask p i f (omega arith) h (λ e. d e.0) g)
        (link-length t.links q coordinator ask)

  -- "C: ask all masked stations and the head together"
  module _ (other : method_of t ≡ 1 → ⊥) (another : method_of t ≡ 2 → ⊥) where
    abbrev pub puts_c : List Put
    puts_c = begun_puts asking_all mask (reads_of t)

    abbrev asks : List ℕ
    asks = sent_asks q mask k t.links

    abbrev pub links_c : List ℕ
    links_c = send_ask q coordinator asks

    abbrev pub row_c : List ℕ
    row_c = put_all puts_c q t.clients

    abbrev pub after_c : Tables
    after_c = begun_read_with q mask (asking row_c links_c) t

    pub row_asked_c : Asked q puts_c t row_c
    row_asked_c = asked-puts q puts_c t s b.client refl refl (λ e. omega arith)

    pub word_c : (g : ℕ) → g < setpoints_field → client_word after_c.clients q g ≡ last_put puts_c (client_word t.clients q g) g
    word_c = row_asked_c.word

    asks-length : length asks ≡ length t.links
    asks-length = sent-length q k (has_server mask) (λ j. ask) t.links servers_few links_room

    pub moves_c : Moves q t after_c
    moves_c =
        begun-moves q mask puts_c row_c links_c t s b few row_asked_c
        (λ p i f d h g. put_other asks q coordinator ask p i f (omega arith) h (λ e. d e.0) g ∙ sent_others q k (has_server mask) (λ j. ask) t.links servers_few links_room f g p i d h)
        (link-length asks q coordinator ask ∙ asks-length)

    -- a link used holds a request: the coordinator's, or a masked server's
    pub asked_c : (i : ℕ) → (has_server mask i || eqb i coordinator) ≡ true → link_word links_c q i 0 ≡ 1
    asked_c i u =
        by_equal i coordinator
        (λ e. rw e (put_same asks q coordinator ask 0 (rw asks-length (link_row_lem t s q b.client coordinator (omega arith))) (omega arith)))
        (λ d. let has_i : has_server mask i ≡ true = rw (ne_eqb i coordinator d, or-false (has_server mask i)) at u in
        put_beside asks q coordinator ask i 0 d (omega arith)
        ∙ sent_there q k (has_server mask) (λ j. ask) t.links servers_few links_room 0 (omega arith) i (masked_below mask k i b.masked.below has_i) has_i)

    pub rest_c : (i : ℕ) → i < targets → (has_server mask i || eqb i coordinator) ≡ false → link_word links_c q i 0 ≡ 0
    rest_c i h u =
        let x = neither (has_server mask i) (eqb i coordinator) u in
        put_beside asks q coordinator ask i 0 (eqb-false i coordinator x.1) (omega arith)
        ∙ (sent-not q k (has_server mask) (λ j. ask) t.links servers_few links_room 0 (omega arith) i x.0 ∙ empty i h)
