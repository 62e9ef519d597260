-- Sound tables as records of facts, for proofs: the conditions of `sound`, each conjunction a record and each `all_below` a function.
-- `sound_facts` and `facts-sound` tie the two, component by component.
use Rattle.std.specs.Prelude.{ℕ, ◌*◌, ◌^◌, ◌≤◌, ◌<◌, ◌≡◌, Bool, false, cond, ◌&&◌, ◌||◌, List, [], ◌∷◌, length, eqb, leb, ltb}
use Rattle.std.proofs.Math.Bool.{true}
use borrow.Author.Tests.{leb-true, le-leb, ltb-true, lt-ltb, eqb-true, eq-eqb, ne_eqb}
use Rattle.ranges.specs.Tests.{by_equal, by-test, both, both_left, both_right}
use Rattle.ranges.specs.All.{all_below}
use Rattle.ranges.specs.AllLaws.{all_at, all_of}
use Rattle.ranges.specs.Sum.{sum_below, count_below}
use Rattle.keys.specs.Masks.{mask_within, Within}
use Rattle.keys.specs.MaskLaws.{within-true, within-test}
use Rattle.tables.specs.Rows.{word_at}
use Rattle.tables.specs.Layout.{count_words, last_step, client_width, server_places, value_width, log_places, entry_width, record_places}
use Rattle.tables.specs.Layout.{record_width}
use Rattle.tables.specs.Layout.{version_word, version_badge, entry_mask, record_word, client_of_record, number_of_record, tag_of_record}
use Rattle.tables.specs.Layout.{badge_of_record}
use Rattle.tables.specs.Links.{targets, link_width, link_row}
use Rattle.tables.specs.Tables.{Tables, method_of, servers_of, clients_of, step_of, entries_of, writes_of, reads_of, held_of, state_of, count_of}
use Rattle.tables.specs.Tables.{mask_of, tag_of}
use Rattle.tables.specs.Tables.{record_of, kept_tag_of, kept_badge_of, write_badge_of, asked_of, content_at}
use Rattle.rules.specs.Common.{idle, pending}
use Rattle.rules.specs.Open.{all_servers}
use Rattle.ranges.specs.Every.{passed, every-passed}
use Rattle.soundness.specs.Sound.{long_enough, between, press_fits, scalars_sound, key_in_range, badge_fits, server_sound, entry_sound}
use Rattle.soundness.specs.Sound.{log_sound, is_writing}
use Rattle.soundness.specs.Sound.{is_reading, state_allowed, content_sound, link_sound, received_sound, asks, asked_sound, kept_sound, client_sound}
use Rattle.soundness.specs.Sound.{write_sound, read_sound}
use Rattle.soundness.specs.Sound.{is_open, open_sound, records_sound, sound}

pub record Between (low n high : ℕ) : Type 0 where
  pub least : low ≤ n
  pub most : n ≤ high

module _ (low n high : ℕ) where
  pub between_facts : between low n high ≡ true → Between low n high
  between_facts e = record { least = leb-true _ _ (both_left (leb low n) (leb n high) e); most = leb-true _ _ (both_right (leb low n) (leb n high) e) }

  pub facts-between : Between low n high → between low n high ≡ true
  facts-between f = both (leb low n) (leb n high) (le-leb _ _ f.least) (le-leb _ _ f.most)

-- Long enough, for k servers and p clients.
pub record Long (k p : ℕ) (t : Tables) : Type 0 where
  pub counts : count_words ≤ length t.counts
  pub clients : client_width * p ≤ length t.clients
  pub links : link_width * (targets * p) ≤ length t.links
  pub keys : server_places * k ≤ length t.keys
  pub values : value_width * (server_places * k) ≤ length t.values
  pub log : entry_width * log_places ≤ length t.log
  pub writes : record_width * record_places ≤ length t.writes
  pub reads : record_width * record_places ≤ length t.reads

module _ (k p : ℕ) (t : Tables) where
  abbrev long_tests : List Bool
  long_tests =
      leb count_words (length t.counts)
      ∷ leb (client_width * p) (length t.clients)
      ∷ leb (link_width * (targets * p)) (length t.links)
      ∷ leb (server_places * k) (length t.keys)
      ∷ leb (value_width * (server_places * k)) (length t.values)
      ∷ leb (entry_width * log_places) (length t.log)
      ∷ leb (record_width * record_places) (length t.writes)
      ∷ leb (record_width * record_places) (length t.reads)
      ∷ []

  pub long_facts : long_enough k p t ≡ true → Long k p t
  unfolding long_enough
  long_facts e =
      let f = passed long_tests e in
      record {
        counts = leb-true _ _ f.0;
        clients = leb-true _ _ f.1.0;
        links = leb-true _ _ f.1.1.0;
        keys = leb-true _ _ f.1.1.1.0;
        values = leb-true _ _ f.1.1.1.1.0;
        log = leb-true _ _ f.1.1.1.1.1.0;
        writes = leb-true _ _ f.1.1.1.1.1.1.0;
        reads = leb-true _ _ f.1.1.1.1.1.1.1.0;
      }

  pub facts_long : Long k p t → long_enough k p t ≡ true
  unfolding long_enough
  facts_long f =
      every-passed long_tests (
        le-leb _ _ f.counts,
        (le-leb _ _ f.clients, (le-leb _ _ f.links, (le-leb _ _ f.keys, (le-leb _ _ f.values, (le-leb _ _ f.log, (le-leb _ _ f.writes, (le-leb _ _ f.reads, tt))))))),
      )

-- Method, servers and clients.
pub record Press (m k p : ℕ) : Type 0 where
  pub method : Between 1 m 3
  pub servers : Between 1 k 16
  pub clients : Between (cond (eqb m 1) 2 1) p 16

module _ (method k p : ℕ) where
  abbrev press_tests : List Bool
  press_tests = between 1 method 3 ∷ between 1 k 16 ∷ between (cond (eqb method 1) 2 1) p 16 ∷ []

  pub press_facts : press_fits method k p ≡ true → Press method k p
  unfolding press_fits
  press_facts e =
      let f = passed press_tests e in
      record { method = between_facts _ _ _ f.0; servers = between_facts _ _ _ f.1.0; clients = between_facts _ _ _ f.1.1.0 }

  pub facts_press : Press method k p → press_fits method k p ≡ true
  unfolding press_fits
  facts_press f = every-passed press_tests (facts-between _ _ _ f.method, (facts-between _ _ _ f.servers, (facts-between _ _ _ f.clients, tt)))

pub record Scalars (t : Tables) : Type 0 where
  pub press : Press (method_of t) (servers_of t) (clients_of t)
  pub step : Between 1 (step_of t) last_step
  pub entries : Between 1 (entries_of t) log_places
  pub writes : writes_of t ≤ record_places
  pub reads : reads_of t ≤ record_places

module _ (t : Tables) where
  abbrev scalar_tests : List Bool
  scalar_tests =
      press_fits (method_of t) (servers_of t) (clients_of t)
      ∷ between 1 (step_of t) last_step
      ∷ between 1 (entries_of t) log_places
      ∷ leb (writes_of t) record_places
      ∷ leb (reads_of t) record_places
      ∷ []

  pub scalars_facts : scalars_sound t ≡ true → Scalars t
  unfolding scalars_sound
  scalars_facts e =
      let f = passed scalar_tests e in
      record {
        press = press_facts _ _ _ f.0;
        step = between_facts _ _ _ f.1.0;
        entries = between_facts _ _ _ f.1.1.0;
        writes = leb-true _ _ f.1.1.1.0;
        reads = leb-true _ _ f.1.1.1.1.0;
      }

  pub facts_scalars : Scalars t → scalars_sound t ≡ true
  unfolding scalars_sound
  facts_scalars f =
      every-passed scalar_tests (facts_press _ _ _ f.press, (facts-between _ _ _ f.step, (facts-between _ _ _ f.entries, (le-leb _ _ f.writes, (le-leb _ _ f.reads, tt)))))

-- A server: its first version bears the opening's key, whose word is 0, and each key and badge it holds is in range.
pub record ServerFacts (t : Tables) (i : ℕ) : Type 0 where
  pub held : Between 1 (held_of t i) server_places
  pub first : version_word t.keys i 0 ≡ 0
  pub key : (place : ℕ) → place < held_of t i → key_in_range (clients_of t) (version_word t.keys i place) ≡ true
  pub badge : (place : ℕ) → place < held_of t i → version_badge t.values i place < 65536

module _ (t : Tables) (i : ℕ) where
  abbrev key_test : ℕ → Bool
  key_test place = key_in_range (clients_of t) (version_word t.keys i place)

  abbrev badge_test : ℕ → Bool
  badge_test place = badge_fits (version_badge t.values i place)

  abbrev server_tests : List Bool
  server_tests =
      between 1 (held_of t i) server_places ∷ eqb (version_word t.keys i 0) 0 ∷ all_below key_test (held_of t i) ∷ all_below badge_test
      (held_of t i) ∷ []

  pub server_facts : server_sound t i ≡ true → ServerFacts t i
  unfolding server_sound
  server_facts e =
      let f = passed server_tests e in
      record {
        held = between_facts _ _ _ f.0;
        first = eqb-true _ _ f.1.0;
        key = all_at key_test (held_of t i) f.1.1.0;
        badge = λ place h. ltb-true _ _ (all_at badge_test (held_of t i) f.1.1.1.0 place h);
      }

  pub facts-server : ServerFacts t i → server_sound t i ≡ true
  unfolding server_sound
  facts-server f =
      let badges = all_of badge_test (held_of t i) (λ place h. lt-ltb _ _ (f.badge place h)) in
      every-passed server_tests (
        facts-between _ _ _ f.held,
        (eq-eqb _ _ f.first, (all_of key_test (held_of t i) f.key, (badges, tt))),
      )

-- The log: tag 0 holds the opening's key with all servers, and each entry is in range.
pub record EntryFacts (t : Tables) (tag : ℕ) : Type 0 where
  pub key : key_in_range (clients_of t) (word_at entry_width t.log tag 0) ≡ true
  pub mask : Within (entry_mask t.log tag) (servers_of t)

module _ (t : Tables) (tag : ℕ) where
  abbrev entry_tests : List Bool
  entry_tests = key_in_range (clients_of t) (word_at entry_width t.log tag 0) ∷ mask_within (entry_mask t.log tag) (servers_of t) ∷ []

  pub entry_facts : entry_sound t tag ≡ true → EntryFacts t tag
  unfolding entry_sound
  entry_facts e = let f = passed entry_tests e in record { key = f.0; mask = within-true _ _ f.1.0 }

  pub facts-entry : EntryFacts t tag → entry_sound t tag ≡ true
  unfolding entry_sound
  facts-entry f = every-passed entry_tests (f.key, (within-test _ _ f.mask, tt))

pub record LogFacts (t : Tables) : Type 0 where
  pub firstkey : word_at entry_width t.log 0 0 ≡ 0
  pub firstmask : entry_mask t.log 0 ≡ all_servers (servers_of t)
  pub entry : (tag : ℕ) → tag < entries_of t → EntryFacts t tag

module _ (t : Tables) where
  abbrev log_tests : List Bool
  log_tests = eqb (word_at entry_width t.log 0 0) 0 ∷ eqb (entry_mask t.log 0) (all_servers (servers_of t)) ∷ all_below (entry_sound t) (entries_of t) ∷ []

  pub log_facts : log_sound t ≡ true → LogFacts t
  unfolding log_sound
  log_facts e =
      let f = passed log_tests e in
      record {
        firstkey = eqb-true _ _ f.0;
        firstmask = eqb-true _ _ f.1.0;
        entry = λ tag h. entry_facts t tag (all_at (entry_sound t) (entries_of t) f.1.1.0 tag h);
      }

  pub facts-log : LogFacts t → log_sound t ≡ true
  unfolding log_sound
  facts-log f =
      every-passed log_tests (eq-eqb _ _ f.firstkey, (eq-eqb _ _ f.firstmask, (all_of (entry_sound t) (entries_of t) (λ tag h. facts-entry t tag (f.entry tag h)), tt)))

-- A client, its row and its links.
pub record LinkFacts (t : Tables) (q i : ℕ) : Type 0 where
  pub kind : word_at link_width t.links (link_row q i) 0 ≤ 3
  pub content : content_sound (content_at t q i) (state_of t q) q i t ≡ true

module _ (t : Tables) (q i : ℕ) where
  abbrev link_tests : List Bool
  link_tests = leb (word_at link_width t.links (link_row q i) 0) 3 ∷ content_sound (content_at t q i) (state_of t q) q i t ∷ []

  pub link_facts : link_sound t q i ≡ true → LinkFacts t q i
  unfolding link_sound
  link_facts e = let f = passed link_tests e in record { kind = leb-true _ _ f.0; content = f.1.0 }

  pub facts-link : LinkFacts t q i → link_sound t q i ≡ true
  unfolding link_sound
  facts-link f = every-passed link_tests (le-leb _ _ f.kind, (f.content, tt))

-- what a client keeps for a server: a tag, a badge, and the key that it asks for
pub record KeptFacts (t : Tables) (q i : ℕ) : Type 0 where
  pub tag : kept_tag_of t q i < entries_of t
  pub badge : kept_badge_of t q i < 65536
  pub asked : asks t q i ≡ true → key_in_range (clients_of t) (asked_of t q i) ≡ true

pub record ClientFacts (t : Tables) (q : ℕ) : Type 0 where
  pub allowed : state_allowed (method_of t) q (state_of t q) ≡ true
  pub count : Between (cond (is_writing (state_of t q)) 1 0) (count_of t q) 255
  pub mask : mask_of t q < 2 ^ servers_of t
  pub masked : (state_of t q ≡ idle → ⊥) → 0 < mask_of t q
  pub tag : tag_of t q < entries_of t
  pub badge : write_badge_of t q < 65536
  pub kept : (i : ℕ) → i < servers_of t → KeptFacts t q i
  pub link : (i : ℕ) → i < targets → LinkFacts t q i
  pub received : (i : ℕ) → i < targets → received_sound t q i ≡ true
  pub busy : (state_of t q ≡ idle → ⊥) → pending t.links q ≡ true

-- a test with two ways, by whether a state is idle
module _ (state : ℕ) (yes' no' : Bool) where
  way-idle : cond (eqb state idle) yes' no' ≡ true → state ≡ idle → yes' ≡ true
  way-idle e d = rw (eq-eqb state idle d) at e

  way-busy : cond (eqb state idle) yes' no' ≡ true → (state ≡ idle → ⊥) → no' ≡ true
  way-busy e d = rw (ne_eqb state idle d) at e

  two_ways : (state ≡ idle → yes' ≡ true) → ((state ≡ idle → ⊥) → no' ≡ true) → cond (eqb state idle) yes' no' ≡ true
  two_ways y n = by_equal state idle (λ e. rw (eq-eqb state idle e) (y e)) (λ d. rw (ne_eqb state idle d) (n d))

  or-busy : (eqb state idle || no') ≡ true → (state ≡ idle → ⊥) → no' ≡ true
  or-busy e d = rw (ne_eqb state idle d) at e

  busy-or : ((state ≡ idle → ⊥) → no' ≡ true) → (eqb state idle || no') ≡ true
  busy-or n = by_equal state idle (λ e. rw (eq-eqb state idle e)) (λ d. rw (ne_eqb state idle d) (n d))

module _ (t : Tables) (q : ℕ) where
  abbrev below : Bool
  below = ltb (mask_of t q) (2 ^ servers_of t)

  abbrev within : Bool
  within = mask_within (mask_of t q) (servers_of t)

  module _ (i : ℕ) where
    abbrev kept_tests : List Bool
    kept_tests = ltb (kept_tag_of t q i) (entries_of t) ∷ badge_fits (kept_badge_of t q i) ∷ asked_sound t q i ∷ []

    asked_facts : asked_sound t q i ≡ true → asks t q i ≡ true → key_in_range (clients_of t) (asked_of t q i) ≡ true
    asked_facts e a = rw a at e

    facts-asked : (asks t q i ≡ true → key_in_range (clients_of t) (asked_of t q i) ≡ true) → asked_sound t q i ≡ true
    facts-asked f = by-test (asks t q i) (λ a. rw a (f a)) (λ a. rw a)

    kept_facts : kept_sound t q i ≡ true → KeptFacts t q i
    kept_facts e =
        let f = passed kept_tests e in
        record { tag = ltb-true _ _ f.0; badge = ltb-true _ _ f.1.0; asked = asked_facts f.1.1.0 }

    facts-kept : KeptFacts t q i → kept_sound t q i ≡ true
    facts-kept f = every-passed kept_tests (lt-ltb _ _ f.tag, (lt-ltb _ _ f.badge, (facts-asked f.asked, tt)))

  abbrev client_tests : List Bool
  client_tests =
      state_allowed (method_of t) q (state_of t q)
      ∷ between (cond (is_writing (state_of t q)) 1 0) (count_of t q) 255
      ∷ cond (eqb (state_of t q) idle) below within
      ∷ ltb (tag_of t q) (entries_of t)
      ∷ badge_fits (write_badge_of t q)
      ∷ all_below (kept_sound t q) (servers_of t)
      ∷ all_below (link_sound t q) targets
      ∷ all_below (received_sound t q) targets
      ∷ (eqb (state_of t q) idle || pending t.links q)
      ∷ []

  pub client_facts : client_sound t q ≡ true → ClientFacts t q
  unfolding client_sound
  client_facts e =
      let f = passed client_tests e in
      let busy : (state_of t q ≡ idle → ⊥) → Within (mask_of t q) (servers_of t) = λ d. within-true _ _ (way-busy (state_of t q) below within f.1.1.0 d) in
      record {
        allowed = f.0;
        count = between_facts _ _ _ f.1.0;
        mask = by_equal (state_of t q) idle (λ d. ltb-true _ _ (way-idle (state_of t q) below within f.1.1.0 d)) (λ d. (busy d).below);
        masked = λ d. (busy d).some;
        tag = ltb-true _ _ f.1.1.1.0;
        badge = ltb-true _ _ f.1.1.1.1.0;
        kept = λ i h. kept_facts i (all_at (kept_sound t q) (servers_of t) f.1.1.1.1.1.0 i h);
        link = λ i h. link_facts t q i (all_at (link_sound t q) targets f.1.1.1.1.1.1.0 i h);
        received = all_at (received_sound t q) targets f.1.1.1.1.1.1.1.0;
        busy = or-busy (state_of t q) true (pending t.links q) f.1.1.1.1.1.1.1.1.0;
      }

  pub facts-client : ClientFacts t q → client_sound t q ≡ true
  unfolding client_sound
  facts-client f =
      let mask = two_ways (state_of t q) below within (λ d. lt-ltb _ _ f.mask) (λ d. within-test _ _ (record { some = f.masked d; below = f.mask })) in
      let kept = all_of (kept_sound t q) (servers_of t) (λ i h. facts-kept i (f.kept i h)) in
      let links = all_of (link_sound t q) targets (λ i h. facts-link t q i (f.link i h)) in
      let received = all_of (received_sound t q) targets f.received in
      let busy = busy-or (state_of t q) true (pending t.links q) f.busy in
      every-passed client_tests
      (f.allowed, (facts-between _ _ _ f.count, (mask, (lt-ltb _ _ f.tag, (lt-ltb _ _ f.badge, (kept, (links, (received, (busy, tt)))))))))

-- The records.
pub record WriteFacts (t : Tables) (n : ℕ) : Type 0 where
  pub client : record_word t.writes n client_of_record < clients_of t
  pub count : Between 1 (record_word t.writes n number_of_record) 255
  pub tag : record_word t.writes n tag_of_record < entries_of t
  pub badge : record_word t.writes n badge_of_record < 65536

pub record ReadFacts (t : Tables) (n : ℕ) : Type 0 where
  pub client : record_word t.reads n client_of_record < clients_of t
  pub mask : Within (record_word t.reads n number_of_record) (servers_of t)
  pub tag : record_word t.reads n tag_of_record < entries_of t

module _ (t : Tables) (n : ℕ) where
  abbrev write_tests : List Bool
  write_tests =
      ltb (record_word t.writes n client_of_record) (clients_of t)
      ∷ between 1 (record_word t.writes n number_of_record) 255
      ∷ ltb (record_word t.writes n tag_of_record) (entries_of t)
      ∷ badge_fits (record_word t.writes n badge_of_record)
      ∷ []

  pub write_facts : write_sound t n ≡ true → WriteFacts t n
  unfolding write_sound
  write_facts e =
      let f = passed write_tests e in
      record {
        client = ltb-true _ _ f.0;
        count = between_facts _ _ _ f.1.0;
        tag = ltb-true _ _ f.1.1.0;
        badge = ltb-true _ _ f.1.1.1.0;
      }

  pub facts-write : WriteFacts t n → write_sound t n ≡ true
  unfolding write_sound
  facts-write f =
      every-passed write_tests (lt-ltb _ _ f.client, (facts-between _ _ _ f.count, (lt-ltb _ _ f.tag, (lt-ltb _ _ f.badge, tt))))

  abbrev read_tests : List Bool
  read_tests = ltb (record_word t.reads n client_of_record) (clients_of t) ∷ mask_within (record_word t.reads n number_of_record) (servers_of t) ∷ ltb (record_word t.reads n tag_of_record) (entries_of t) ∷ []

  pub read_facts : read_sound t n ≡ true → ReadFacts t n
  unfolding read_sound
  read_facts e = let f = passed read_tests e in record { client = ltb-true _ _ f.0; mask = within-true _ _ f.1.0; tag = ltb-true _ _ f.1.1.0 }

  pub facts-read : ReadFacts t n → read_sound t n ≡ true
  unfolding read_sound
  facts-read f = every-passed read_tests (lt-ltb _ _ f.client, (within-test _ _ f.mask, (lt-ltb _ _ f.tag, tt)))

-- A client that does something of a kind has one record of it in progress, at its place; else it has none.
pub record Doing (records : List ℕ) (begun q place : ℕ) : Type 0 where
  pub once : count_below (is_open records q) begun ≡ 1
  pub within : place < begun
  pub here : is_open records q place ≡ true

module _ (records : List ℕ) (begun q place : ℕ) where
  pub doing_facts : open_sound true records begun q place ≡ true → Doing records begun q place
  unfolding open_sound
  doing_facts e =
      let l = both_left (eqb (count_below (is_open records q) begun) 1) (ltb place begun && is_open records q place) e in
      let r = both_right (eqb (count_below (is_open records q) begun) 1) (ltb place begun && is_open records q place) e in
      record { once = eqb-true _ _ l; within = ltb-true _ _ (both_left (ltb place begun) (is_open records q place) r); here = both_right (ltb place begun) (is_open records q place) r }

  pub facts_doing : Doing records begun q place → open_sound true records begun q place ≡ true
  unfolding open_sound
  facts_doing d =
      both (eqb (count_below (is_open records q) begun) 1) (ltb place begun && is_open records q place)
      (eq-eqb _ _ d.once)
      (both (ltb place begun) (is_open records q place) (lt-ltb _ _ d.within) d.here)

  pub none_facts : open_sound false records begun q place ≡ true → count_below (is_open records q) begun ≡ 0
  unfolding open_sound
  none_facts e = eqb-true _ _ e

  pub facts-none : count_below (is_open records q) begun ≡ 0 → open_sound false records begun q place ≡ true
  unfolding open_sound
  facts-none e = eq-eqb _ _ e

-- A client's record in progress, of either kind.
pub record RecordsFacts (t : Tables) (q : ℕ) : Type 0 where
  pub write : open_sound (is_writing (state_of t q)) t.writes (writes_of t) q (record_of t q) ≡ true
  pub read : open_sound (is_reading (state_of t q)) t.reads (reads_of t) q (record_of t q) ≡ true

module _ (t : Tables) (q : ℕ) where
  abbrev record_tests : List Bool
  record_tests = open_sound (is_writing (state_of t q)) t.writes (writes_of t) q (record_of t q) ∷ open_sound (is_reading (state_of t q)) t.reads (reads_of t) q (record_of t q) ∷ []

  pub records_facts : records_sound t q ≡ true → RecordsFacts t q
  unfolding records_sound
  records_facts e = let f = passed record_tests e in record { write = f.0; read = f.1.0 }

  pub facts_records : RecordsFacts t q → records_sound t q ≡ true
  unfolding records_sound
  facts_records f = every-passed record_tests (f.write, (f.read, tt))

-- All of it.
pub record Sound (t : Tables) : Type 0 where
  pub long : Long (servers_of t) (clients_of t) t
  pub scalars : Scalars t
  pub server : (i : ℕ) → i < servers_of t → ServerFacts t i
  pub log : LogFacts t
  pub client : (q : ℕ) → q < clients_of t → ClientFacts t q
  pub counts : sum_below (count_of t) (clients_of t) ≡ writes_of t
  pub write : (n : ℕ) → n < writes_of t → WriteFacts t n
  pub read : (n : ℕ) → n < reads_of t → ReadFacts t n
  pub records : (q : ℕ) → q < clients_of t → RecordsFacts t q

module _ (t : Tables) where
  abbrev sound_tests : List Bool
  sound_tests =
      long_enough (servers_of t) (clients_of t) t
      ∷ scalars_sound t
      ∷ all_below (server_sound t) (servers_of t)
      ∷ log_sound t
      ∷ all_below (client_sound t) (clients_of t)
      ∷ eqb (sum_below (count_of t) (clients_of t)) (writes_of t)
      ∷ all_below (write_sound t) (writes_of t)
      ∷ all_below (read_sound t) (reads_of t)
      ∷ all_below (records_sound t) (clients_of t)
      ∷ []

  pub sound_facts : sound t ≡ true → Sound t
  unfolding sound
  sound_facts e =
      let f = passed sound_tests e in
      record {
        long = long_facts _ _ t f.0;
        scalars = scalars_facts t f.1.0;
        server = λ i h. server_facts t i (all_at (server_sound t) (servers_of t) f.1.1.0 i h);
        log = log_facts t f.1.1.1.0;
        client = λ q h. client_facts t q (all_at (client_sound t) (clients_of t) f.1.1.1.1.0 q h);
        counts = eqb-true _ _ f.1.1.1.1.1.0;
        write = λ n h. write_facts t n (all_at (write_sound t) (writes_of t) f.1.1.1.1.1.1.0 n h);
        read = λ n h. read_facts t n (all_at (read_sound t) (reads_of t) f.1.1.1.1.1.1.1.0 n h);
        records = λ q h. records_facts t q (all_at (records_sound t) (clients_of t) f.1.1.1.1.1.1.1.1.0 q h);
      }

  pub facts-sound : Sound t → sound t ≡ true
  unfolding sound
  facts-sound f =
      let servers = all_of (server_sound t) (servers_of t) (λ i h. facts-server t i (f.server i h)) in
      let clients = all_of (client_sound t) (clients_of t) (λ q h. facts-client t q (f.client q h)) in
      let writes = all_of (write_sound t) (writes_of t) (λ n h. facts-write t n (f.write n h)) in
      let reads = all_of (read_sound t) (reads_of t) (λ n h. facts-read t n (f.read n h)) in
      let records = all_of (records_sound t) (clients_of t) (λ q h. facts_records t q (f.records q h)) in
      every-passed sound_tests (facts_long _ _ t f.long, (facts_scalars t f.scalars, (servers, (facts-log t f.log, (clients, (eq-eqb _ _ f.counts, (writes, (reads, (records, tt)))))))))
