-- Of specs/Frame: what cites a theorem there that a changed definition can make fail.
use Rattle.std.specs.Prelude.{ℕ, ◌+◌, ◌≤◌, ◌<◌, ◌≡◌, refl, Bool, true, false, cond, ◌&&◌, ◌||◌, List, length, leb, ltb}
use Rattle.std.proofs.Common.{sym, ◌∙◌, arith, eq-eqb, ne_eqb, ltb-true, ltb-false, lt-ltb}
use Rattle.std.proofs.Math.Dec.{eqb}
use Rattle.ranges.specs.Tests.{by-test, by_equal, both, both_left, both_right}
use Rattle.ranges.specs.Sum.{sum_below}
use Rattle.tables.specs.Rows.{word_at}
use Rattle.tables.specs.Layout.{last_step, client_width, client_word, server_places, log_places, record_places, entry_width, version_word}
use Rattle.tables.specs.Layout.{version_badge}
use Rattle.tables.specs.Layout.{value_width, value_row, record_word, client_of_record, number_of_record, tag_of_record, badge_of_record}
use Rattle.tables.specs.Layout.{count_field, mask_field, state_field, tag_field, tags_field, badges_field, write_badge_field, asked_field}
use Rattle.tables.specs.Links.{targets, link_width, is_empty}
use Rattle.tables.specs.Tables.{Tables, with_clients, method_of, servers_of, clients_of, step_of, entries_of, writes_of, reads_of, held_of}
use Rattle.tables.specs.Tables.{state_of, count_of, mask_of, tag_of, received_of, content_at}
use Rattle.rules.specs.Common.{entering, asking_keys, asking_all, coordinator}
use Rattle.soundness.specs.Sound.{between, uses, holding, key_in_range, request_sound, reply_sound, received_sound, asks}
use Rattle.soundness.specs.Facts.{Between, between_facts, facts-between, Long, Press, ServerFacts, EntryFacts, LogFacts, LinkFacts}
use Rattle.soundness.specs.Facts.{KeptFacts, ClientFacts, WriteFacts, ReadFacts, RecordsFacts, Sound}
use Rattle.soundness.specs.Room.{server-fits, few_servers}
use Rattle.keeping.specs.Links.{link_word, empty-same_words, pending-same, link-asks, asks-link}
use Rattle.keeping.specs.Frame.{Grows, Kept, Numbers, Renewed, grows_then, holding-more, kept_in, kept_row, log-kept, long_kept, press-kept, received_more, reply-more, request-kept, server-kept}

module _ (t t' : Tables) (n : Numbers t t') where
  pub reply-kept : (state i number : ℕ) → i < targets → reply_sound state i number t ≡ true → reply_sound state i number t' ≡ true
  unfolding reply_sound
  reply-kept state i number h e = reply-more (eqb state entering) (eqb state asking_keys || eqb state asking_all) number (entries_of t) (entries_of t') (holding t i) (holding t' i) n.entries (holding-more t t' n i h) e

  -- a link whose words stay, of a client whose state and mask stay
  module _ (q i : ℕ) (h : i < targets) (state : state_of t' q ≡ state_of t q) (mask : mask_of t' q ≡ mask_of t q) (words : (f : ℕ) → f < link_width → link_word t'.links q i f ≡ link_word t.links q i f) where
    pub link-kept : LinkFacts t q i → LinkFacts t' q i
    link-kept l =
        let a = link-asks t q i l in
        let k = words 0 (omega arith) in
        asks-link t' q i (record {
          kind = rw k a.kind;
          used = λ d. rw (state, mask) (a.used (λ e. d (k ∙ e)));
          request = λ e. rw (state, words 1 (omega arith), words 2 (omega arith)) (request-kept t t' n _ _ _ _ (a.request (sym k ∙ e)));
          reply = λ e. rw (state, words 2 (omega arith)) (reply-kept _ _ _ h (a.reply (sym k ∙ e)));
          set-badge = λ e. rw (state, words 3 (omega arith)) (a.set-badge (sym k ∙ e));
          got-badge = λ e. rw (state, words 3 (omega arith)) (a.got-badge (sym k ∙ e));
        })

    pub received-kept : received_of t' q i ≡ received_of t q i → received_sound t q i ≡ true → received_sound t' q i ≡ true
    unfolding received_sound
    received-kept r e =
        rw (state, mask, r, empty-same_words t.links t'.links q i words)
        (received_more (eqb (state_of t q) asking_all && (uses (state_of t q) (mask_of t q) i && is_empty (content_at t q i))) (received_of t q i) (holding t i) (holding t' i) (holding-more t t' n i h) e)

  pub kept_stay : (q : ℕ) → servers_of t ≤ 16 →
      ((f : ℕ) → tags_field ≤ f → f < client_width → (f ≡ write_badge_field → ⊥) → client_word t'.clients q f ≡ client_word t.clients q f) →
      ((i : ℕ) → asks t' q i ≡ true → asks t q i ≡ true) →
      ((i : ℕ) → i < servers_of t → KeptFacts t q i) → (i : ℕ) → i < servers_of t' → KeptFacts t' q i
  kept_stay q few same fewer c = kept_in t t' n q (kept_row t t'.clients q few same fewer c)

  -- a client whose row and links stay
  pub client-kept : (q : ℕ) → servers_of t ≤ 16 → ((f : ℕ) → f < client_width → client_word t'.clients q f ≡ client_word t.clients q f) →
      ((i f : ℕ) → i < targets → f < link_width → link_word t'.links q i f ≡ link_word t.links q i f) → ClientFacts t q → ClientFacts t' q
  client-kept q few row words c =
      let state : state_of t' q ≡ state_of t q = row state_field (omega arith) in
      let mask : mask_of t' q ≡ mask_of t q = row mask_field (omega arith) in
      let count : count_of t' q ≡ count_of t q = row count_field (omega arith) in
      let tag : tag_of t' q ≡ tag_of t q = row tag_field (omega arith) in
      record {
        allowed = rw (n.method, state) c.allowed;
        count = rw (state, count) c.count;
        mask = rw (n.servers, mask) c.mask;
        masked = λ d. rw mask (c.masked (λ e. d (state ∙ e)));
        tag = omega (arith, c.tag, n.entries);
        badge = rw (row write_badge_field (omega arith)) c.badge;
        kept = kept_stay q few (λ f g h e. row f h) (λ i e. rw (state, mask) at e) c.kept;
        link = λ i h. link-kept q i h state mask (λ f g. words i f h g) (c.link i h);
        received = λ i h. received-kept q i h state mask (λ f g. words i f h g) (row _ (omega arith)) (c.received i h);
        busy = λ d. rw (pending-same t.links t'.links q words) (c.busy (λ e. d (state ∙ e)));
      }

module _ (q : ℕ) (t t' : Tables) (s : Sound t) (g : Grows q t t') where
  -- what a step left and what it proves anew make sound tables
  sound-kept : Renewed q t t' → Sound t'
  sound-kept r =
      record {
        long = long_kept q t t' s g;
        scalars = record { press = press-kept q t t' s g; step = r.step; entries = record { least = omega (arith, s.scalars.entries.least, g.numbers.entries); most = r.entries }; writes = r.writes; reads = r.reads };
        server = λ i h. server-kept q t t' s g r i (rw g.numbers.servers at h);
        log = log-kept q t t' s g r;
        client = λ p h. by_equal p q (λ e. rw e r.client) (λ d. client-kept t t' g.numbers p (few_servers t s) (λ f l. g.row p f d l) (λ i f l m. g.link p i f d l m) (s.client p (rw g.numbers.clients at h)));
        counts = rw g.numbers.clients r.counts;
        write = r.write;
        read = r.read;
        records = λ p h. r.records p (rw g.numbers.clients at h);
      }

-- the law of every step
pub kept : (q : ℕ) (t t' : Tables) → Sound t → Grows q t t' → Renewed q t t' → Kept q t t'
kept q t t' s g r = record { sound = sound-kept q t t' s g r; grows = g }

pub kept_then : (q : ℕ) (t t₁ t₂ : Tables) → Sound t → Kept q t t₁ → Kept q t₁ t₂ → Kept q t t₂
kept_then q t t₁ t₂ s a b = record { sound = b.sound; grows = grows_then q t t₁ t₂ s a.grows b.grows }
