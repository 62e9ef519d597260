-- Begins, on the tables.
use Prim.Native.Nat.{ℕ, suc, ◌+◌, ◌≤◌, ◌<◌}
use mathlib.Core.Path.{◌≡◌, refl, sym, ap, ◌∙◌, subst}
use mathlib.Core.Bool.{true}
use mathlib.Core.List.{List, [], ◌∷◌}
use native.Mathlib.Omega.{arith}
use native.Mathlib.Numerals.{add-one}
use lib.ListN.{get_or, set, length, length-set}
use lib.Dec.{eqb}
use Rattle.ranges.specs.Tests.{by-test}
use Rattle.ranges.specs.Sum.{one}
use Rattle.ranges.specs.SumLaws.{sum-part, one-true}
use Rattle.keys.specs.Keys.{key_of, opening, FitsByte}
use Rattle.keys.specs.KeyLaws.{at-word-fits}
use Rattle.keys.specs.Masks.{has_server, servers_in, Within}
use Rattle.keys.specs.MaskLaws.{some-server}
use Rattle.coordinator.specs.Latest.{latest_key, latest_word, latest_tag_at}
use Rattle.tables.specs.Rows.{HasRow, word_same, word_other, word-length}
use Rattle.tables.specs.Layout.{client_width, client_word, put_client_word, state_field, count_field, mask_field, tag_field, record_field}
use Rattle.tables.specs.Layout.{setpoints_field, tags_field, write_badge_field, asked_field, writes_field, reads_field, record_places, count_words}
use Rattle.tables.specs.Links.{targets, HasLinks, link_at}
use Rattle.tables.specs.Tables.{Tables, method_of, servers_of, clients_of, step_of, writes_of, reads_of, count_of}
use Rattle.tables.specs.declared.links.Content.{Content}
use Rattle.tables.specs.declared.links.Content.TheVariants.{Nothing}
use Rattle.rules.specs.Answers.{left}
use Rattle.rules.specs.Words.{every}
use Rattle.rules.specs.WordsLaws.{kept_other, kept-length}
use Rattle.rules.specs.Common.{idle, asking_keys, asking_setpoints, asking_all, coordinator, request, set_request, begun_counts, started_client}
use Rattle.rules.specs.Common as rules
use Rattle.rules.specs.Begin.{stored_setpoints, started_writer, next_count, begun_write, sent_gets, kept_tags, kept_keys, send_ask, sent_asks}
use Rattle.rules.specs.Begin.{asking}
use Rattle.rules.specs.Begin.{asking_by_b, asking_by_c, begun_read_with}
use Rattle.refusals.specs.Former.{last_tag, asking_by_a, formerly_begun_read}
use Rattle.rules.specs.Answer.{Ok}
use Rattle.keeping.specs.Accepted.{Beginnable, Writable, Readable}
use Rattle.keeping.specs.States.{masked_below}
use Rattle.keeping.specs.Rows.{Put, put, put_all, put-read, put_elsewhere, put-length}
use Rattle.keeping.specs.Rounds.{sent-length}
use Rattle.claim.specs.Steps.{Event, begun-write, begun-read}
use Rattle.refusals.specs.Steps.{badge_of}
use Rattle.claim.specs.History.{changed, History, extra_of}
use Rattle.serial.proofs.Press.{Shared, renumbered, Client, client_of, Press, press_of, state_in, count_in, row_of, links_of, shared_of, view, sends, world}
use Rattle.serial.proofs.View.{within_at, within_same, row-put_other, link-put, link-put_other, view_is, shared_in, shared_step, shared-writes, shared-reads}
use Rattle.serial.proofs.Loops.{sent-links, sent_others, kept_rows, kept-ahead, kept_word}
use Rattle.serial.proofs.Ready.{Ready, few, in_range, has-row, has-link, has-links, row_at, link_at_lem}
use Rattle.serial.proofs.Invariant.{Idle, Tied}
use Rattle.serial.proofs.Kept.{Kept, resting}
use Rattle.serial.proofs.Budget.{Budget}
use Rattle.serial.proofs.Fair.{Standing, Fair}
use Rattle.serial.proofs.Spending.{write-budget, read-budget}
use Rattle.serial.proofs.Begins.{write_kept, read_a-kept, read-b-kept, read-c-kept}

-- a begin's state, mask and place of its record, as words put one behind the other
module _ (state mask place q : ℕ) (clients : List ℕ) (has : HasRow client_width clients q) where
  abbrev puts : List Put
  puts = put state_field state ∷ put mask_field mask ∷ put record_field place ∷ []

  started-has : HasRow client_width (started_client state mask place q clients) q
  started-has = rw (put-length q puts clients) has

  started_others : (r : ℕ) → (r ≡ q → ⊥) → row_of (started_client state mask place q clients) r ≡ row_of clients r
  started_others r d = within_same client_width 0 (client_word (put_all puts q clients) r) (client_word clients r) (λ g l. put_elsewhere q puts clients r g refl l d)

  started_state : client_word (started_client state mask place q clients) q state_field ≡ state
  started_state = put-read q puts clients state_field _ has refl (omega arith) refl

  started-mask : client_word (started_client state mask place q clients) q mask_field ≡ mask
  started-mask = put-read q puts clients mask_field _ has refl (omega arith) refl

  started-count : client_word (started_client state mask place q clients) q count_field ≡ client_word clients q count_field
  started-count = put-read q puts clients count_field _ has refl (omega arith) refl

-- a mask that is accepted has servers
pub mask-some : (mask k : ℕ) → k ≤ 16 → Within mask k → 0 < servers_in mask
mask-some mask k l w =
    let s = some-server mask k w in
    omega (arith, sum-part (λ i. one (has_server mask i)) 16 s.0 (omega (arith, s.1)), one-true s.2)

module _ (floor : ℕ → ℕ) (t : Tables) (h : History) (s : Standing floor t h) (q mask : ℕ) (b : Beginnable q mask t) where
  abbrev tied : Tied floor (view t) h
  tied = s.tied

  abbrev budget : Budget (view t)
  budget = s.budget

  abbrev ready : Ready t q
  ready = record { sound = s.sound; client = b.client }

  abbrev c : Client
  c = (view t).client q

  resting_state : state_in c ≡ idle
  resting_state = row_at t q state_field (omega arith) ∙ b.free

  idling : Idle h.extra (world (view t) h) (floor q) q c (h.doing q)
  idling = resting h.extra (world (view t) h) (floor q) q c (h.doing q) resting_state (tied.clients q (in_range t q ready)).activity

  empty : (i : ℕ) → i < targets → (link_at t.links q i).content ≡ Nothing
  empty i l = sym (link_at_lem t q i l) ∙ idling.links i l

  long : HasLinks t.links q
  long = has-links t q ready

  bound : (i : ℕ) → has_server mask i ≡ true → i < servers_of t
  bound i e = masked_below mask (servers_of t) i b.masked.below e

  some_masked : 0 < servers_in mask
  some_masked = mask-some mask (servers_of t) (few t q ready) b.masked

  abbrev Begun : Event → Tables → Type 0
  Begun event left = Fair floor h (step_of t) (record { event = event; tables = left })

  small : servers_of t ≤ targets
  small = omega (arith, few t q ready)

  -- what is shared after a begin: one step more, and one transaction of its kind
  abbrev step' : ℕ
  step' = step_of t + 1

  counts_long : count_words ≤ length t.counts
  counts_long = ready.sound.long.counts

  writes-shared : shared_in (begun_counts writes_field t.counts) t.keys t.values t.log ≡ renumbered step' (writes_of t + 1) (reads_of t) (shared_of t)
  writes-shared =
      shared_step (set t.counts writes_field (writes_of t + 1)) step' t.keys t.values t.log (rw (length-set t.counts writes_field (writes_of t + 1)) counts_long)
      ∙ ap (λ (x : Shared). renumbered step' x.writes x.reads x) (shared-writes t.counts (writes_of t + 1) t.keys t.values t.log counts_long)

  reads-shared : shared_in (begun_counts reads_field t.counts) t.keys t.values t.log ≡ renumbered step' (writes_of t) (reads_of t + 1) (shared_of t)
  reads-shared =
      shared_step (set t.counts reads_field (reads_of t + 1)) step' t.keys t.values t.log (rw (length-set t.counts reads_field (reads_of t + 1)) counts_long)
      ∙ ap (λ (x : Shared). renumbered step' x.writes x.reads x) (shared-reads t.counts (reads_of t + 1) t.keys t.values t.log counts_long)

  module _ (badge : ℕ) (setpoints : List ℕ) (free : writes_of t < record_places) where
    -- the row with state, mask and place of its record, then with its count, and then with its WRITE's badge
    abbrev first_row : List ℕ
    first_row = started_client rules.writing mask (writes_of t) q t.clients

    abbrev counted_row : List ℕ
    counted_row = put_client_word first_row q count_field (next_count t q)

    abbrev begun_clients : List ℕ
    begun_clients = started_writer mask (writes_of t) (next_count t q) (badge_of badge) q t.clients

    abbrev clients' : List ℕ
    clients' = stored_setpoints q setpoints (servers_of t) begun_clients

    abbrev value : ℕ → ℕ
    value i = get_or setpoints i 0

    has-begun : HasRow client_width first_row q
    has-begun = started-has rules.writing mask (writes_of t) q t.clients (has-row t q ready)

    has-counted : HasRow client_width counted_row q
    has-counted = rw (word-length client_width first_row q count_field (next_count t q)) has-begun

    has-badge : HasRow client_width begun_clients q
    has-badge = rw (word-length client_width counted_row q write_badge_field (badge_of badge)) has-counted

    room : setpoints_field + servers_of t ≤ client_width
    room = omega (arith, few t q ready)

    -- a word of the row but for the setpoints
    begun-word : (f : ℕ) → f < client_width → ((setpoints_field ≤ f) × (f < setpoints_field + servers_of t) → ⊥) →
        row_of clients' q f ≡ client_word begun_clients q f
    begun-word f l d =
        within_at client_width 0 (client_word clients' q) f l
        ∙ kept_other setpoints_field every value q (servers_of t) room begun_clients q f l (λ e. d (e.1, e.2))

    counted-word : (f : ℕ) → f < setpoints_field → row_of clients' q f ≡ client_word counted_row q f
    counted-word f l =
        begun-word f (omega arith) (λ e. omega (arith, e.0))
        ∙ word_other client_width counted_row q write_badge_field (badge_of badge) q f (omega arith) (omega arith) (λ e. omega (arith, e.1))

    other_word : (f : ℕ) → f < setpoints_field → (f ≡ count_field → ⊥) → row_of clients' q f ≡ client_word first_row q f
    other_word f l d =
        counted-word f l ∙ word_other client_width first_row q count_field (next_count t q) q f (omega arith) (omega arith) (λ e. d e.1)

    next-count : next_count t q ≡ suc (count_in c)
    next-count = add-one (count_of t q) ∙ ap suc (sym (row_at t q count_field (omega arith)))

    few_counts : suc (count_in c) < 256
    few_counts = omega (arith, row_at t q count_field (omega arith), sum-part (count_of t) (clients_of t) q ready.client, ready.sound.counts)

    abbrev sets : ℕ → ℕ → Content
    sets n i = set_request (key_of n q) (badge_of badge) (get_or setpoints i 0)

    fits : (i : ℕ) → FitsByte (key_of (next_count t q) q)
    fits i = record { count = omega (arith, few_counts, next-count); client = omega (arith, in_range t q ready) }

    abbrev begun : Client
    begun = client_of (row_of clients' q) (sends mask (sets (suc (count_in c))))

    begun_state : state_in begun ≡ rules.writing
    begun_state = other_word state_field (omega arith) (λ e. omega arith) ∙ started_state rules.writing mask (writes_of t) q t.clients (has-row t q ready)

    seen : view (begun_write q mask (badge_of badge) setpoints t) ≡ press_of (renumbered step' (writes_of t + 1) (reads_of t) (shared_of t))
        (changed (view t).client q begun)
    unfolding begun_write
    seen =
        view_is t (begun_write q mask (badge_of badge) setpoints t) q writes-shared refl
        (sent-links q (sets (next_count t q)) fits mask (servers_of t) small bound t.links long empty ∙ ap (λ (n : ℕ). sends mask (sets n)) next-count)
        (λ r d. kept_rows setpoints_field every value q (servers_of t) room begun_clients r d
        ∙ row-put_other counted_row q write_badge_field (badge_of badge) (omega arith) r d
        ∙ row-put_other first_row q count_field (next_count t q) (omega arith) r d
        ∙ started_others rules.writing mask (writes_of t) q t.clients (has-row t q ready) r d)
        (λ r d. sent_others q (sets (next_count t q)) fits mask (servers_of t) small bound t.links long empty r d)

    write-begun : Begun (begun-write q mask badge setpoints Ok) (begun_write q mask (badge_of badge) setpoints t)
    write-begun = record {
      kept = subst (λ (v : Press). Kept floor h (begun-write q mask badge setpoints Ok) v) (sym seen)
          (write_kept floor (view t) h tied (few t q ready) q (in_range t q ready) resting_state mask bound some_masked (row_of clients' q)
          (other_word mask_field (omega arith) (λ e. omega arith) ∙ started-mask rules.writing mask (writes_of t) q t.clients (has-row t q ready)) step' (writes_of t + 1) (reads_of t)
          badge setpoints begun_state
          (counted-word count_field (omega arith) ∙ word_same client_width first_row q count_field (next_count t q) has-begun (omega arith)
          ∙ next-count)
          few_counts
          (begun-word write_badge_field (omega arith) (λ e. omega (arith, e.1, few t q ready))
          ∙ word_same client_width counted_row q write_badge_field (badge_of badge) has-counted (omega arith))
          (λ i l. kept_word setpoints_field every value q (servers_of t) room begun_clients has-badge i l refl));
      budget = subst Budget (sym seen) (write-budget (view t) budget q (in_range t q ready) begun begun_state);
      answers = tt;
      room = λ z. omega arith;
      step = ap (λ (v : Press). v.shared.step) seen ∙ add-one (step_of t);
    }

  -- a READ that leaves the client's row and links so
  module _ (clients' links' : List ℕ) where
    abbrev read_left : Tables
    read_left = begun_read_with q mask (asking clients' links') t

    abbrev read_press : (ℕ → Content) → Press
    read_press link = press_of (renumbered step' (writes_of t) (reads_of t + 1) (shared_of t)) (changed (view t).client q (client_of (row_of clients' q) link))

    read_left_lem : {link : ℕ → Content} → ((r : ℕ) → (r ≡ q → ⊥) → row_of clients' r ≡ row_of t.clients r) → links_of links' q ≡ link → ((r : ℕ) → (r ≡ q → ⊥) → links_of links' r ≡ links_of t.links r) →
        Kept floor h (begun-read q mask Ok) (read_press link) → Budget (read_press link) → Begun (begun-read q mask Ok) read_left
    read_left_lem other-rows link-is other-links k b =
        let seen = view_is t read_left q reads-shared refl link-is other-rows other-links in
        record {
          kept = subst (λ (v : Press). Kept floor h (begun-read q mask Ok) v) (sym seen) k;
          budget = subst Budget (sym seen) b;
          answers = tt;
          room = λ z. omega arith;
          step = ap (λ (v : Press). v.shared.step) seen ∙ add-one (step_of t);
        }

  abbrev ask : Content
  ask = request opening 0

  ask-fits : FitsByte opening
  ask-fits = record { count = omega arith; client = omega arith }

  abbrev with_state : ℕ → List ℕ
  with_state state = started_client state mask (reads_of t) q t.clients

  word_of : (state f : ℕ) → f < client_width → {v : ℕ} → client_word (with_state state) q f ≡ v → row_of (with_state state) q f ≡ v
  word_of state f l e = within_at client_width 0 (client_word (with_state state) q) f l ∙ e

  count_of_lem : (state : ℕ) → client_word (with_state state) q count_field ≡ count_in c
  count_of_lem state = started-count state mask (reads_of t) q t.clients (has-row t q ready) ∙ sym (row_at t q count_field (omega arith))

  a_fair : h.extra ≡ 0 → Begun (begun-read q mask Ok) (begun_read_with q mask (asking_by_a q mask t) t)
  a_fair extra =
      read_left_lem clients' (sent_gets q mask t.log (last_tag t) (servers_of t) t.links)
      (λ r d. kept_rows asked_field (has_server mask) (latest_word t.log (last_tag t)) q (servers_of t) asked_room kept r d
      ∙ kept_rows tags_field (has_server mask) (latest_tag_at t.log (last_tag t)) q (servers_of t) room tagged r d
      ∙ row-put_other (with_state asking_setpoints) q tag_field (last_tag t) (omega arith) r d
      ∙ started_others asking_setpoints mask (reads_of t) q t.clients (has-row t q ready) r d)
      (sent-links q (gets (last_tag t)) (λ i. at-word-fits _) mask (servers_of t) small bound t.links long empty ∙ ap (λ (n : ℕ). sends mask (gets n)) (sym tag_is))
      (λ r d. sent_others q (gets (last_tag t)) (λ i. at-word-fits _) mask (servers_of t) small bound t.links long empty r d)
      (read_a-kept floor (view t) h tied (few t q ready) q (in_range t q ready) resting_state mask bound some_masked (row_of clients' q)
      (word mask_field (omega arith) (λ e. omega arith) ∙ started-mask asking_setpoints mask (reads_of t) q t.clients (has-row t q ready)) step' (writes_of t) (reads_of t + 1)
      (word count_field (omega arith) (λ e. omega arith) ∙ count_of_lem asking_setpoints)
      extra state (tag_is ∙ last) tags_are keys_are)
      (read-budget (view t) budget q (in_range t q ready) asked asking_setpoints state (λ e. omega arith) (λ e. omega arith))
    where
      tagged : List ℕ
      tagged = put_client_word (with_state asking_setpoints) q tag_field (last_tag t)

      kept : List ℕ
      kept = kept_tags q mask t.log (last_tag t) (servers_of t) tagged

      clients' : List ℕ
      clients' = kept_keys q mask t.log (last_tag t) (servers_of t) kept

      started : HasRow client_width (with_state asking_setpoints) q
      started = started-has asking_setpoints mask (reads_of t) q t.clients (has-row t q ready)

      room : tags_field + servers_of t ≤ client_width
      room = omega (arith, few t q ready)

      asked_room : asked_field + servers_of t ≤ client_width
      asked_room = omega (arith, few t q ready)

      gets : ℕ → ℕ → Content
      gets n i = request (latest_key t.log i n) 0

      tagged-has : HasRow client_width tagged q
      tagged-has = rw (word-length client_width (with_state asking_setpoints) q tag_field (last_tag t)) started

      kept-has : HasRow client_width kept q
      kept-has = rw (kept-length tags_field (has_server mask) (latest_tag_at t.log (last_tag t)) q (servers_of t) room tagged) tagged-has

      -- a word ahead of the tags kept
      ahead : (f : ℕ) → f < tags_field → row_of clients' q f ≡ client_word tagged q f
      ahead f l =
          kept-ahead asked_field (has_server mask) (latest_word t.log (last_tag t)) q (servers_of t) asked_room kept f (omega arith)
          ∙ kept-ahead tags_field (has_server mask) (latest_tag_at t.log (last_tag t)) q (servers_of t) room tagged f l
          ∙ within_at client_width 0 (client_word tagged q) f (omega arith)

      word : (f : ℕ) → f < tags_field → (f ≡ tag_field → ⊥) → row_of clients' q f ≡ client_word (with_state asking_setpoints) q f
      word f l d =
          ahead f l
          ∙ word_other client_width (with_state asking_setpoints) q tag_field (last_tag t) q f (omega arith) (omega arith) (λ e. d e.1)

      asked : Client
      asked = client_of (row_of clients' q) (sends mask (gets (row_of clients' q tag_field)))

      state : state_in asked ≡ asking_setpoints
      state = word state_field (omega arith) (λ e. omega arith) ∙ started_state asking_setpoints mask (reads_of t) q t.clients (has-row t q ready)

      tag_is : row_of clients' q tag_field ≡ last_tag t
      tag_is =
          ahead tag_field (omega arith)
          ∙ word_same client_width (with_state asking_setpoints) q tag_field (last_tag t) started (omega arith)

      -- each wanted server's is the one that the log has at that tag
      tags_are : (i : ℕ) → has_server mask i ≡ true → row_of clients' q (tags_field + i) ≡ latest_tag_at t.log (row_of clients' q tag_field) i
      tags_are i m =
          kept-ahead asked_field (has_server mask) (latest_word t.log (last_tag t)) q (servers_of t) asked_room kept (tags_field + i)
          (omega (arith, bound i m, few t q ready))
          ∙ kept_word tags_field (has_server mask) (latest_tag_at t.log (last_tag t)) q (servers_of t) room tagged tagged-has i (bound i m) m
          ∙ ap (λ (n : ℕ). latest_tag_at t.log n i) (sym tag_is)

      keys_are : (i : ℕ) → has_server mask i ≡ true → row_of clients' q (asked_field + i) ≡ latest_word t.log (row_of clients' q tag_field) i
      keys_are i m =
          kept_word asked_field (has_server mask) (latest_word t.log (last_tag t)) q (servers_of t) asked_room kept kept-has i (bound i m) m
          ∙ ap (λ (n : ℕ). latest_word t.log n i) (sym tag_is)

      last : last_tag t ≡ h.tags
      last = omega (arith, tied.entries)

  b_fair : h.extra ≡ 2 → Begun (begun-read q mask Ok) (begun_read_with q mask (asking_by_b q mask t) t)
  b_fair extra =
      read_left_lem (with_state asking_keys) (send_ask q coordinator t.links)
      (started_others asking_keys mask (reads_of t) q t.clients (has-row t q ready))
      (link-put t.links q coordinator ask (omega arith) (has-link t q ready coordinator (omega arith)) ask-fits)
      (λ r d. link-put_other t.links q coordinator ask (omega arith) r d)
      (read-b-kept floor (view t) h tied (few t q ready) q (in_range t q ready) resting_state mask bound some_masked (row_of (with_state asking_keys) q)
      masked step' (writes_of t) (reads_of t + 1)
      (word_of asking_keys count_field (omega arith) (count_of_lem asking_keys))
      extra state)
      (read-budget (view t) budget q (in_range t q ready) asked asking_keys state (λ e. omega arith) (λ e. omega arith))
    where
      asked : Client
      asked = client_of (row_of (with_state asking_keys) q) (changed c.link coordinator ask)

      masked : row_of (with_state asking_keys) q mask_field ≡ mask
      masked = word_of asking_keys mask_field (omega arith) (started-mask asking_keys mask (reads_of t) q t.clients (has-row t q ready))

      state : state_in asked ≡ asking_keys
      state = word_of asking_keys state_field (omega arith) (started_state asking_keys mask (reads_of t) q t.clients (has-row t q ready))

  c_fair : h.extra ≡ 2 → Begun (begun-read q mask Ok) (begun_read_with q mask (asking_by_c q mask t) t)
  c_fair extra =
      read_left_lem (with_state asking_all) (send_ask q coordinator sent)
      (started_others asking_all mask (reads_of t) q t.clients (has-row t q ready))
      (link-put sent q coordinator ask (omega arith) (rw (sent-length q (servers_of t) (has_server mask) (λ i. ask) t.links small long) (has-link t q ready coordinator (omega arith))) ask-fits
      ∙ ap (λ (l : ℕ → Content). changed l coordinator ask) (sent-links q (λ i. ask) (λ i. ask-fits) mask (servers_of t) small bound t.links long empty))
      (λ r d. link-put_other sent q coordinator ask (omega arith) r d ∙ sent_others q (λ i. ask) (λ i. ask-fits) mask (servers_of t) small bound t.links long empty r d)
      (read-c-kept floor (view t) h tied (few t q ready) q (in_range t q ready) resting_state mask bound some_masked (row_of (with_state asking_all) q)
      (word_of asking_all mask_field (omega arith) (started-mask asking_all mask (reads_of t) q t.clients (has-row t q ready))) step' (writes_of t) (reads_of t + 1)
      (word_of asking_all count_field (omega arith) (count_of_lem asking_all))
      extra state)
      (read-budget (view t) budget q (in_range t q ready) asked asking_all state (λ e. omega arith) (λ e. omega arith))
    where
      asked : Client
      asked = client_of (row_of (with_state asking_all) q) (changed (sends mask (λ i. ask)) coordinator ask)

      state : state_in asked ≡ asking_all
      state = word_of asking_all state_field (omega arith) (started_state asking_all mask (reads_of t) q t.clients (has-row t q ready))

      sent : List ℕ
      sent = sent_asks q mask (servers_of t) t.links

  read-begun : Begun (begun-read q mask Ok) (formerly_begun_read q mask t)
  unfolding formerly_begun_read
  read-begun =
      let extra : h.extra ≡ extra_of (method_of t) = tied.method in
      by-test (eqb (method_of t) 1)
      (λ a. rw a (a_fair (rw a at extra)))
      (λ a. by-test (eqb (method_of t) 2)
      (λ b. rw (a, b) (b_fair (rw a at extra)))
      (λ b. rw (a, b) (c_fair (rw a at extra))))

-- Begins, by facts: whichever refusals stand ahead of them.
module _ (floor : ℕ → ℕ) (t : Tables) (h : History) (s : Standing floor t h) (q mask : ℕ) where
  pub write_fair : (badge : ℕ) (setpoints : List ℕ) → Writable q mask setpoints t →
      Fair floor h (step_of t) (record {
        event = begun-write q mask badge setpoints Ok;
        tables = begun_write q mask (badge_of badge) setpoints t;
      })
  write_fair badge setpoints a = write-begun floor t h s q mask a.begin badge setpoints a.few

  pub read_fair : Readable q mask t → Fair floor h (step_of t) (record { event = begun-read q mask Ok; tables = formerly_begun_read q mask t })
  read_fair a = read-begun floor t h s q mask a.begin
