-- Begins: all links of an idle client are empty, and each request that a begin sends is what the row then gives.
use Rattle.std.specs.Prelude.{ℕ, ◌+◌, ◌≤◌, ◌<◌, ◌≡◌, refl, true, false, List, [], ◌∷◌, get_or, length, eqb}
use Rattle.std.proofs.Math.Path.{sym}
use Rattle.std.proofs.Common.{ap, ◌∙◌, arith}
use Rattle.ranges.specs.Tests.{by-test, by_equal}
use Rattle.keys.specs.declared.Key.{Key}
use Rattle.keys.specs.Keys.{key_of, opening, FitsByte}
use Rattle.keys.specs.Masks.{has_server}
use Rattle.tables.specs.Rows.{HasRow}
use Rattle.tables.specs.Layout.{client_width, client_word, state_field, count_field, mask_field, tag_field, record_field, setpoints_field}
use Rattle.tables.specs.Layout.{write_badge_field}
use Rattle.tables.specs.Links.{targets, HasLinks, is_empty, ContentFits}
use Rattle.tables.specs.LinkLaws.{link-same}
use Rattle.tables.specs.Tables.{Tables, method_of, servers_of, writes_of, reads_of, count_of, mask_of, content_at}
use Rattle.tables.specs.declared.links.Content.{Content}
use Rattle.rules.specs.Words.{every}
use Rattle.rules.specs.WordsLaws.{kept_other, kept_there}
use Rattle.rules.specs.Common.{writing, asking_keys, asking_setpoints, asking_all, coordinator, request, set_request, started_client}
use Rattle.rules.specs.Loss.{sent_by}
use Rattle.rules.specs.Begin.{started_writer, stored_setpoints, next_count, begun_write, sent_asks, asking_by_b, asking_by_c}
use Rattle.rules.specs.Begin.{begun_read_with}
use Rattle.refusals.specs.Former.{last_tag, asking_by_a, formerly_begun_read}
use Rattle.soundness.specs.Facts.{Sound}
use Rattle.soundness.specs.Room.{few_servers, client-fits, client-row, client-links, link_row_lem}
use Rattle.keeping.specs.Accepted.{Beginnable}
use Rattle.keeping.specs.States.{masked_below, uses-idle}
use Rattle.keeping.specs.Rows.{Put, put, put_all, put-read, put-length}
use Rattle.resending.specs.Sent.{sent-writing, sent-keys, sent-all}
use Rattle.resending.specs.Carried.{Carried, carried-fresh, carried-empty, unused-empty}
use Rattle.resending.specs.Rounds.{beside, sent_there, sent-not, sent-length}
use Rattle.resending.specs.Gets.{gets_carry}

-- the words of a row that a WRITE has begun: five are put, then the setpoints are stored
module _ (mask place count badge q k : ℕ) (setpoints clients : List ℕ) (has : HasRow client_width clients q) (few : k ≤ 16) where
  abbrev puts : List Put
  puts = put state_field writing ∷ put mask_field mask ∷ put record_field place ∷ put count_field count ∷ put write_badge_field badge ∷ []

  abbrev started : List ℕ
  started = started_writer mask place count badge q clients

  abbrev row : List ℕ
  row = stored_setpoints q setpoints k started

  started-has : HasRow client_width started q
  started-has = rw (put-length q puts clients) has

  -- ahead of the setpoints and behind them a word is the last one put
  written-word : (f v : ℕ) → f < client_width → ((setpoints_field ≤ f) × (f < setpoints_field + k) → ⊥) → client_word started q f ≡ v → client_word row q f ≡ v
  written-word f v l d e = kept_other setpoints_field every (λ i. get_or setpoints i 0) q k (omega arith) started q f l (λ z. d (z.1, z.2)) ∙ e

  pub written_state : client_word row q state_field ≡ writing
  written_state = written-word state_field writing (omega arith) (λ z. omega (arith, z.0)) (put-read q puts clients state_field _ has refl (omega arith) refl)

  pub written_count : client_word row q count_field ≡ count
  written_count = written-word count_field count (omega arith) (λ z. omega (arith, z.0)) (put-read q puts clients count_field _ has refl (omega arith) refl)

  pub written-badge : client_word row q write_badge_field ≡ badge
  written-badge = written-word write_badge_field badge (omega arith) (λ z. omega (arith, z.1)) (put-read q puts clients write_badge_field _ has refl (omega arith) refl)

  pub written_setpoint : (i : ℕ) → i < k → client_word row q (setpoints_field + i) ≡ get_or setpoints i 0
  written_setpoint i l = kept_there setpoints_field every (λ j. get_or setpoints j 0) q k (omega arith) started i started-has l refl

module _ (t : Tables) (s : Sound t) (q mask : ℕ) (b : Beginnable q mask t) where
  -- all links are empty
  none : (i : ℕ) → i < targets → is_empty (content_at t q i) ≡ true
  none i l = unused-empty t s q i b.client l (rw b.free (uses-idle (mask_of t q) i))

  few : servers_of t ≤ targets
  few = omega (arith, few_servers t s)

  has : HasRow client_width t.clients q
  has = client-row t s q b.client

  long : HasLinks t.links q
  long = client-links t s q b.client

  server : (i : ℕ) → has_server mask i ≡ true → i < servers_of t
  server i e = masked_below mask (servers_of t) i b.masked.below e

  module _ (badge : ℕ) (setpoints : List ℕ) (low : count_of t q < 255) where
    abbrev t' : Tables
    t' = begun_write q mask badge setpoints t

    abbrev own : Key
    own = key_of (next_count t q) q

    abbrev set : ℕ → Content
    set i = set_request own badge (get_or setpoints i 0)

    fits : FitsByte own
    fits = record { count = omega (arith, low); client = omega (arith, client-fits t s q b.client) }

    given : (i : ℕ) → has_server mask i ≡ true → sent_by q i t' ≡ set i
    unfolding begun_write
    given i e =
        let few16 = few_servers t s in
        let l = server i e in
        sent-writing t' q i (written_state mask (writes_of t) (next_count t q) badge q (servers_of t) setpoints t.clients has few16)
        ∙ rw (
          written_count mask (writes_of t) (next_count t q) badge q (servers_of t) setpoints t.clients has few16,
          written-badge mask (writes_of t) (next_count t q) badge q (servers_of t) setpoints t.clients has few16,
          written_setpoint mask (writes_of t) (next_count t q) badge q (servers_of t) setpoints t.clients has few16 i l,
        )

    pub write-carries : (i : ℕ) → i < targets → Carried t t' q i
    unfolding begun_write
    write-carries i l =
        by-test (has_server mask i)
        (λ e. carried-fresh t t' q i (none i l) (λ full.
        sent_there q set (λ j. fits) mask (servers_of t) few t.links long i (server i e) e ∙ sym (given i e)))
        (λ e. carried-empty t t' q i (ap is_empty (sent-not q set (λ j. fits) mask (servers_of t) few t.links long i e) ∙ none i l))

  -- a begin of a READ puts state, mask and the place of its record, then what the method adds
  abbrev base : ℕ → List Put
  base state = put state_field state ∷ put mask_field mask ∷ put record_field (reads_of t) ∷ []

  started_state : (state : ℕ) → client_word (started_client state mask (reads_of t) q t.clients) q state_field ≡ state
  started_state state = put-read q (base state) t.clients state_field _ has refl (omega arith) refl

  -- A: the last tag is put, and the gets are sent
  abbrev by_a : Tables
  by_a = begun_read_with q mask (asking_by_a q mask t) t

  abbrev tagged : List Put
  tagged = put state_field asking_setpoints ∷ put mask_field mask ∷ put record_field (reads_of t) ∷ put tag_field (last_tag t) ∷ []

  a-carries : (i : ℕ) → i < targets → Carried t by_a q i
  a-carries i l =
      gets_carry t by_a q mask (last_tag t) (servers_of t) t.log (put_all tagged q t.clients) t.links (few_servers t s) server
      (rw (put-length q tagged t.clients) has) long (put-read q tagged t.clients state_field _ has refl (omega arith) refl)
      none refl refl i l (λ e. none i l)

  -- B: the head alone is asked
  abbrev by_b : Tables
  by_b = begun_read_with q mask (asking_by_b q mask t) t

  ask-fits : ContentFits (request opening 0)
  ask-fits = record { count = omega arith; client = omega arith }

  b-carries : (i : ℕ) → i < targets → Carried t by_b q i
  b-carries i l =
      by_equal i coordinator
      (λ e. carried-fresh t by_b q i (none i l) (λ full.
      rw e (link-same t.links q coordinator (request opening 0) (link_row_lem t s q b.client coordinator (omega arith)) ask-fits)
      ∙ sym (sent-keys by_b q i (started_state asking_keys))))
      (λ d. carried-empty t by_b q i (ap is_empty (beside t.links q coordinator i (request opening 0) d) ∙ none i l))

  -- C: all are asked together, and each is sent the same
  abbrev by_c : Tables
  by_c = begun_read_with q mask (asking_by_c q mask t) t

  abbrev asked : List ℕ
  asked = sent_asks q mask (servers_of t) t.links

  c_gives : (i : ℕ) → sent_by q i by_c ≡ request opening 0
  c_gives i = sent-all by_c q i (started_state asking_all)

  asked_long : HasLinks asked q
  asked_long = rw (sent-length q (λ i. request opening 0) mask (servers_of t) t.links) long

  c-carries : (i : ℕ) → i < targets → Carried t by_c q i
  c-carries i l =
      by_equal i coordinator
      (λ e. carried-fresh t by_c q i (none i l) (λ full.
      rw e (link-same asked q coordinator (request opening 0) (omega (arith, asked_long)) ask-fits) ∙ sym (c_gives i)))
      (λ d. by-test (has_server mask i)
      (λ e. carried-fresh t by_c q i (none i l) (λ full.
      beside asked q coordinator i (request opening 0) d
      ∙ sent_there q (λ j. request opening 0) (λ j. ask-fits) mask (servers_of t) few t.links long i (server i e) e
      ∙ sym (c_gives i)))
      (λ e. carried-empty t by_c q i (ap is_empty (
      beside asked q coordinator i (request opening 0) d
      ∙ sent-not q (λ j. request opening 0) (λ j. ask-fits) mask (servers_of t) few t.links long i e) ∙ none i l)))

  pub read-carries : (i : ℕ) → i < targets → Carried t (formerly_begun_read q mask t) q i
  unfolding formerly_begun_read
  read-carries i l =
      by-test (eqb (method_of t) 1)
      (λ e. rw e (a-carries i l))
      (λ d. by-test (eqb (method_of t) 2)
      (λ e. rw (d, e) (b-carries i l))
      (λ e. rw (d, e) (c-carries i l)))
