-- What a step of one client leaves to the others. A client's part of soundness mentions the rest only through numbers that grow
-- (the log's entries, the versions held), so one law carries every other client over a step.
use Rattle.std.specs.Prelude.{ℕ, ◌+◌, ◌≤◌, ◌<◌, ◌≡◌, refl, Bool, true, false, cond, ◌&&◌, ◌||◌, List, length, leb, ltb}
use Rattle.std.proofs.Common.{sym, ◌∙◌, arith, eq-eqb, ne_eqb, ltb-true, ltb-false, lt-ltb}
use Rattle.std.proofs.Math.Dec.{eqb}
use Rattle.ranges.specs.Tests.{by-test, by_equal, both, both_left, both_right}
use Rattle.ranges.specs.Sum.{sum_below}
use Rattle.tables.specs.Rows.{word_at}
use Rattle.tables.specs.Layout.{last_step, client_width, client_word, server_places, log_places, record_places, entry_width, version_word}
use Rattle.tables.specs.Layout.{version_badge}
use Rattle.tables.specs.Layout.{value_width, value_row, record_word, client_of_record, number_of_record, tag_of_record, badge_of_record}
use Rattle.tables.specs.Layout.{count_field, mask_field, state_field, tag_field, tags_field, badges_field, write_badge_field, asked_field}
use Rattle.tables.specs.Links.{targets, link_width, is_empty}
use Rattle.tables.specs.Tables.{Tables, with_clients, method_of, servers_of, clients_of, step_of, entries_of, writes_of, reads_of, held_of}
use Rattle.tables.specs.Tables.{state_of, count_of, mask_of, tag_of, received_of, content_at}
use Rattle.rules.specs.Common.{entering, asking_keys, asking_all, coordinator}
use Rattle.soundness.specs.Sound.{between, uses, holding, key_in_range, request_sound, reply_sound, received_sound, asks}
use Rattle.soundness.specs.Facts.{Between, between_facts, facts-between, Long, Press, ServerFacts, EntryFacts, LogFacts, LinkFacts}
use Rattle.soundness.specs.Facts.{KeptFacts, ClientFacts, WriteFacts, ReadFacts, RecordsFacts, Sound}
use Rattle.soundness.specs.Room.{server-fits, few_servers}
use Rattle.keeping.specs.Links.{link_word, empty-same_words, pending-same, link-asks, asks-link}

-- The press stays; the log and the servers' versions only grow in number.
pub record Numbers (t t' : Tables) : Type 0 where
  pub method : method_of t' ≡ method_of t
  pub servers : servers_of t' ≡ servers_of t
  pub clients : clients_of t' ≡ clients_of t
  pub entries : entries_of t ≤ entries_of t'
  pub held : (i : ℕ) → i < 16 → held_of t i ≤ held_of t' i

-- a number within a bound is within a greater one
pub reply-more : (b c : Bool) (number n n' h h' : ℕ) → n ≤ n' → h ≤ h' → cond b (leb 1 number && ltb number n) (cond c (between 1 number h) true) ≡ true →
    cond b (leb 1 number && ltb number n') (cond c (between 1 number h') true) ≡ true
reply-more true c number n n' h h' g l e = both (leb 1 number) (ltb number n') (both_left _ _ e) (lt-ltb number n' (omega (arith, ltb-true number n (both_right (leb 1 number) _ e))))
reply-more false true number n n' h h' g l e = let f = between_facts 1 number h e in facts-between 1 number h' (record { least = f.least; most = omega (arith, f.most) })
reply-more false false number n n' h h' g l e = refl

pub received_more : (b : Bool) (r h h' : ℕ) → h ≤ h' → cond b (between 1 r h) (eqb r 0) ≡ true → cond b (between 1 r h') (eqb r 0) ≡ true
received_more true r h h' l e = let f = between_facts 1 r h e in facts-between 1 r h' (record { least = f.least; most = omega (arith, f.most) })
received_more false r h h' l e = e

-- what a client keeps of each server, tag, badge and key asked for, where the row's words for them stay and it asks for no key more
pub kept_row : (t : Tables) (clients' : List ℕ) (q : ℕ) → servers_of t ≤ 16 →
    ((f : ℕ) → tags_field ≤ f → f < client_width → (f ≡ write_badge_field → ⊥) → client_word clients' q f ≡ client_word t.clients q f) →
    ((i : ℕ) → asks (with_clients clients' t) q i ≡ true → asks t q i ≡ true) →
    ((i : ℕ) → i < servers_of t → KeptFacts t q i) → (i : ℕ) → i < servers_of t → KeptFacts (with_clients clients' t) q i
kept_row t clients' q few same fewer c i h =
    record {
      tag = rw (same (tags_field + i) (omega arith) (omega arith) (λ e. omega arith)) (c i h).tag;
      badge = rw (same (badges_field + i) (omega arith) (omega arith) (λ e. omega arith)) (c i h).badge;
      asked = λ e. rw (same (asked_field + i) (omega arith) (omega arith) (λ z. omega arith)) ((c i h).asked (fewer i e));
    }

module _ (t t' : Tables) (n : Numbers t t') where
  pub holding-more : (i : ℕ) → i < targets → holding t i ≤ holding t' i
  holding-more i h = by_equal i coordinator (λ e. rw (eq-eqb i coordinator e) n.entries) (λ d. rw (ne_eqb i coordinator d) (n.held i (by_equal i 16 (λ e. absurd (d e)) (λ z. omega arith))))

  pub request-kept : (state q word number : ℕ) → request_sound state q word number t ≡ true → request_sound state q word number t' ≡ true
  unfolding request_sound
  request-kept state q word number e = rw (n.servers, n.clients) e

  -- what a client keeps: that of the row that it has now, and where its words stay
  pub kept_in : (q : ℕ) → ((i : ℕ) → i < servers_of t → KeptFacts (with_clients t'.clients t) q i) → (i : ℕ) → i < servers_of t' →
      KeptFacts t' q i
  kept_in q c i h =
      let f = c i (rw n.servers at h) in
      record { tag = omega (arith, f.tag, n.entries); badge = f.badge; asked = λ e. rw n.clients (f.asked e) }

  -- a record whose client and number stay, and whose tag is within the log
  pub write_kept : (m : ℕ) → record_word t'.writes m client_of_record ≡ record_word t.writes m client_of_record →
      record_word t'.writes m number_of_record ≡ record_word t.writes m number_of_record →
      record_word t'.writes m badge_of_record ≡ record_word t.writes m badge_of_record →
      record_word t'.writes m tag_of_record < entries_of t' → WriteFacts t m → WriteFacts t' m
  write_kept m c k b h w = record { client = rw (c, n.clients) w.client; count = rw k w.count; tag = h; badge = rw b w.badge }

  pub read_kept : (m : ℕ) → record_word t'.reads m client_of_record ≡ record_word t.reads m client_of_record →
      record_word t'.reads m number_of_record ≡ record_word t.reads m number_of_record → record_word t'.reads m tag_of_record < entries_of t' → ReadFacts t m → ReadFacts t' m
  read_kept m c k h w = record { client = rw (c, n.clients) w.client; mask = rw (k, n.servers) w.mask; tag = h }

-- No table changes its length.
pub record Lengths (t t' : Tables) : Type 0 where
  pub counts : length t'.counts ≡ length t.counts
  pub clients : length t'.clients ≡ length t.clients
  pub links : length t'.links ≡ length t.links
  pub keys : length t'.keys ≡ length t.keys
  pub values : length t'.values ≡ length t.values
  pub log : length t'.log ≡ length t.log
  pub writes : length t'.writes ≡ length t.writes
  pub reads : length t'.reads ≡ length t.reads

-- What a step of client q leaves: the press, the rows and links of the other clients, the versions held and the log's entries.
pub record Grows (q : ℕ) (t t' : Tables) : Type 0 where
  pub numbers : Numbers t t'
  pub lengths : Lengths t t'
  pub row : (p f : ℕ) → (p ≡ q → ⊥) → f < client_width → client_word t'.clients p f ≡ client_word t.clients p f
  pub link : (p i f : ℕ) → (p ≡ q → ⊥) → i < targets → f < link_width → link_word t'.links p i f ≡ link_word t.links p i f
  pub key : (i place : ℕ) → i < servers_of t → place < held_of t i → version_word t'.keys i place ≡ version_word t.keys i place
  pub value : (i place f : ℕ) → i < servers_of t → place < held_of t i → f < value_width →
      word_at value_width t'.values (value_row i place) f ≡ word_at value_width t.values (value_row i place) f
  pub entry : (tag f : ℕ) → tag < entries_of t → f < entry_width → word_at entry_width t'.log tag f ≡ word_at entry_width t.log tag f

-- What a step of client q proves anew: the scalars, what was appended, the client itself, the records.
pub record Renewed (q : ℕ) (t t' : Tables) : Type 0 where
  pub step : Between 1 (step_of t') last_step
  pub entries : entries_of t' ≤ log_places
  pub writes : writes_of t' ≤ record_places
  pub reads : reads_of t' ≤ record_places
  pub held : (i : ℕ) → i < servers_of t → held_of t' i ≤ server_places
  pub key : (i place : ℕ) → i < servers_of t → held_of t i ≤ place → place < held_of t' i → key_in_range (clients_of t) (version_word t'.keys i place) ≡ true
  pub badge : (i place : ℕ) → i < servers_of t → held_of t i ≤ place → place < held_of t' i → version_badge t'.values i place < 65536
  pub entry : (tag : ℕ) → entries_of t ≤ tag → tag < entries_of t' → EntryFacts t' tag
  pub client : ClientFacts t' q
  pub counts : sum_below (count_of t') (clients_of t) ≡ writes_of t'
  pub write : (n : ℕ) → n < writes_of t' → WriteFacts t' n
  pub read : (n : ℕ) → n < reads_of t' → ReadFacts t' n
  pub records : (p : ℕ) → p < clients_of t → RecordsFacts t' p

module _ (q : ℕ) (t t' : Tables) (s : Sound t) (g : Grows q t t') where
  pub long_kept : Long (servers_of t') (clients_of t') t'
  long_kept =
      let l = s.long in
      let e = g.lengths in
      rw (g.numbers.servers, g.numbers.clients)
      (record {
        counts = rw e.counts l.counts;
        clients = rw e.clients l.clients;
        links = rw e.links l.links;
        keys = rw e.keys l.keys;
        values = rw e.values l.values;
        log = rw e.log l.log;
        writes = rw e.writes l.writes;
        reads = rw e.reads l.reads;
      })

  pub press-kept : Press (method_of t') (servers_of t') (clients_of t')
  press-kept = rw (g.numbers.method, g.numbers.servers, g.numbers.clients) s.scalars.press

  -- a server: what it held, and what came
  pub server-kept : Renewed q t t' → (i : ℕ) → i < servers_of t → ServerFacts t' i
  server-kept r i h =
      let f = s.server i h in
      let more = g.numbers.held i (server-fits t s i h) in
      record {
        held = record { least = omega (arith, f.held.least); most = r.held i h };
        first = g.key i 0 h f.held.least ∙ f.first;
        key = λ place l. rw g.numbers.clients (by-test (ltb place (held_of t i))
            (λ b. rw (g.key i place h (ltb-true _ _ b)) (f.key place (ltb-true _ _ b)))
            (λ b. r.key i place h (ltb-false _ _ b) l));
        badge = λ place l. by-test (ltb place (held_of t i))
            (λ b. rw (g.value i place 0 h (ltb-true _ _ b) (omega arith)) (f.badge place (ltb-true _ _ b)))
            (λ b. r.badge i place h (ltb-false _ _ b) l);
      }

  pub log-kept : Renewed q t t' → LogFacts t'
  log-kept r =
      let f = s.log in
      let some = s.scalars.entries.least in
      record {
        firstkey = g.entry 0 0 some (omega arith) ∙ f.firstkey;
        firstmask = rw g.numbers.servers (g.entry 0 1 some (omega arith) ∙ f.firstmask);
        entry = λ tag l. by-test (ltb tag (entries_of t))
            (λ b.
            let h = ltb-true tag (entries_of t) b in
            let e = f.entry tag h in
            record { key = rw (g.numbers.clients, g.entry tag 0 h (omega arith)) e.key; mask = rw (g.numbers.servers, g.entry tag 1 h (omega arith)) e.mask })
            (λ b. r.entry tag (ltb-false _ _ b) l);
      }

-- A step of client q on sound tables: what it leaves is sound, and the rest has only grown.
pub record Kept (q : ℕ) (t t' : Tables) : Type 0 where
  pub sound : Sound t'
  pub grows : Grows q t t'

-- a step refused leaves all as before
pub kept_same : (q : ℕ) (t : Tables) → Sound t → Kept q t t
kept_same q t s =
    record {
      sound = s;
      grows = record {
        numbers = record { method = refl; servers = refl; clients = refl; entries = omega arith; held = λ i h. omega arith };
        lengths = record { counts = refl; clients = refl; links = refl; keys = refl; values = refl; log = refl; writes = refl; reads = refl };
        row = λ p f d h. refl;
        link = λ p i f d h l. refl;
        key = λ i place h l. refl;
        value = λ i place f h l g. refl;
        entry = λ tag f h l. refl;
      };
    }

-- two steps of one client, one behind the other
module _ (q : ℕ) (t t₁ t₂ : Tables) (s : Sound t) (a : Grows q t t₁) (b : Grows q t₁ t₂) where
  held_then : (i place : ℕ) → i < servers_of t → place < held_of t i → place < held_of t₁ i
  held_then i place h l = omega (arith, a.numbers.held i (server-fits t s i h))

  pub grows_then : Grows q t t₂
  grows_then =
      let m = a.numbers in
      let n = b.numbers in
      let x = a.lengths in
      let y = b.lengths in
      record {
        numbers = record {
          method = n.method ∙ m.method;
          servers = n.servers ∙ m.servers;
          clients = n.clients ∙ m.clients;
          entries = omega (arith, m.entries, n.entries);
          held = λ i h. omega (arith, m.held i h, n.held i h);
        };
        lengths = record {
          counts = y.counts ∙ x.counts;
          clients = y.clients ∙ x.clients;
          links = y.links ∙ x.links;
          keys = y.keys ∙ x.keys;
          values = y.values ∙ x.values;
          log = y.log ∙ x.log;
          writes = y.writes ∙ x.writes;
          reads = y.reads ∙ x.reads;
        };
        row = λ p f d h. b.row p f d h ∙ a.row p f d h;
        link = λ p i f d h l. b.link p i f d h l ∙ a.link p i f d h l;
        key = λ i place h l. b.key i place (rw m.servers h) (held_then i place h l) ∙ a.key i place h l;
        value = λ i place f h l g. b.value i place f (rw m.servers h) (held_then i place h l) g ∙ a.value i place f h l g;
        entry = λ tag f h l. b.entry tag f (omega (arith, m.entries)) l ∙ a.entry tag f h l;
      }
