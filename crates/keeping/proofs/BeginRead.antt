-- Of specs/BeginRead: what cites a theorem there that a changed definition can make fail.
use Rattle.std.specs.Prelude.{ℕ, ◌+◌, ◌≤◌, ◌<◌, ◌≡◌, refl, true, false, not, ◌&&◌, ◌||◌, List, [], ◌∷◌, length, eqb}
use Rattle.std.proofs.Common.{sym, ◌∙◌, arith}
use Rattle.std.proofs.Math.Bool.{or-true, or-false}
use borrow.Author.Tests.{eq-eqb, ne_eqb, eqb-true, eqb-false}
use Rattle.ranges.specs.Tests.{by_equal}
use Rattle.ranges.specs.Sum.{sum_below}
use Rattle.ranges.specs.SumLaws.{sum_same}
use Rattle.keys.specs.Keys.{opening}
use Rattle.keys.specs.Masks.{has_server}
use Rattle.coordinator.specs.Latest.{latest_key}
use Rattle.tables.specs.Rows.{HasRow}
use Rattle.tables.specs.Layout.{writes_field, reads_field, client_width, client_word, record_places, record_width, client_of_record, count_field, mask_field, number_of_record, received_field, record_field, setpoints_field, state_field, tag_field, tag_of_record}
use Rattle.tables.specs.Links.{targets, HasLinks, link_width}
use Rattle.tables.specs.LinkLaws.{link-length}
use Rattle.tables.specs.Tables.{Tables, method_of, servers_of, clients_of, step_of, entries_of, writes_of, reads_of, state_of, count_of, mask_of}
use Rattle.tables.specs.Tables.{record_of, received_of}
use Rattle.tables.specs.declared.links.Content.{Content}
use Rattle.rules.specs.Common.{writing, asking_keys, asking_setpoints, asking_all, coordinator, request}
use Rattle.rules.specs.Begin.{sent_gets, kept_asking, send_ask, sent_asks, asking, begun_read_with}
use Rattle.refusals.specs.Former.{last_tag, formerly_begun_read}
use Rattle.soundness.specs.Sound.{is_writing, is_reading, uses}
use Rattle.soundness.specs.Facts.{KeptFacts, ClientFacts, ReadFacts, RecordsFacts, Sound}
use Rattle.soundness.specs.Room.{few_servers, client-links, link_row_lem, next-read}
use Rattle.keeping.specs.Accepted.{neither, Beginnable, Readable}
use Rattle.keeping.specs.Links.{badge_on, link_word, put_same, put_other, put_beside}
use Rattle.keeping.specs.States.{masked_below, not-all, received_none, allowed_by-A, allowed_by-B, allowed_by-C, uses-keys}
use Rattle.keeping.specs.States.{uses-all, request-keys, request-all, no-badge}
use Rattle.keeping.specs.Frame.{Kept, write_kept, read_kept, kept_in}
use Rattle.keeping.proofs.Moves.{moved-kept}
use Rattle.keeping.specs.Moves.{Moves, moves-numbers, same_entries}
use Rattle.keeping.specs.Records.{begun-word, begun-here, begun_places, records-begun, records-idle}
use Rattle.keeping.specs.Rows.{put, Put, put_all, last_put}
use Rattle.keeping.specs.Asked.{Asked, asked-puts, asked-keys}
use Rattle.keeping.specs.Rounds.{Sent, sent-client, idle-empty, sent_there, sent-not, sent_others, sent-length}
use Rattle.keeping.specs.Gets.{gets-sent}
use Rattle.keeping.specs.Begins.{begun_other, begun_more, begun_step, begun-length}
use Rattle.keeping.specs.BeginRead.{after, after_a, after_b, after_c, ask, asked_c, begun-sum, begun_record, begun_records, c, counted, empty, last_within, links_a, links_b, links_c, links_room, more-reads, moves_a, moves_b, moves_c, none_received, puts_a, puts_b, puts_c, rest_c, row_a, row_asked_a, row_asked_b, row_asked_c, row_b, row_c, same_writes, word_a, word_b, word_c}

-- A begin of a READ, whatever links it leaves. It puts words into the row, below the setpoints, and no count; by A it
-- keeps tags and keys too.
module _ (q mask : ℕ) (puts : List Put) (clients' links' : List ℕ) (t : Tables) (s : Sound t) (b : Beginnable q mask t) (few : reads_of t < record_places)
    (asked : Asked q puts t clients') where
  kept-within : Moves q t (after q mask puts clients' links' t s b few asked) → (i : ℕ) → i < servers_of (after q mask puts clients' links' t s b few asked) → KeptFacts (after q mask puts clients' links' t s b few asked) q i
  kept-within m = kept_in t (after q mask puts clients' links' t s b few asked) (moves-numbers q t (after q mask puts clients' links' t s b few asked) m) q asked.kept

  module _ (m : Moves q t (after q mask puts clients' links' t s b few asked)) (reading : is_reading (state_of (after q mask puts clients' links' t s b few asked) q) ≡ true) (writes : is_writing (state_of (after q mask puts clients' links' t s b few asked) q) ≡ false) (count : count_of (after q mask puts clients' links' t s b few asked) q ≡ count_of t q)
      (place : record_of (after q mask puts clients' links' t s b few asked) q ≡ reads_of t) (c : ClientFacts (after q mask puts clients' links' t s b few asked) q) where
    begun_kept : Kept q t (after q mask puts clients' links' t s b few asked)
    begun_kept =
        let num = moves-numbers q t (after q mask puts clients' links' t s b few asked) m in
        moved-kept q t (after q mask puts clients' links' t s b few asked) s m (record {
          step = rw (begun_step reads_field t.counts s.long.counts (omega arith) (λ e. omega arith)) (record { least = omega arith; most = omega (arith, b.early) });
          writes = rw (same_writes q mask puts clients' links' t s b few asked) s.scalars.writes;
          reads = rw (more-reads q mask puts clients' links' t s b few asked) (omega arith);
          client = c;
          counts = begun-sum q mask puts clients' links' t s b few asked m reading writes count place c;
          write = λ n h. write_kept t (after q mask puts clients' links' t s b few asked) num n refl refl refl (rw (same_entries q t (after q mask puts clients' links' t s b few asked) m) (s.write n (rw (same_writes q mask puts clients' links' t s b few asked) at h)).tag) (s.write n (rw (same_writes q mask puts clients' links' t s b few asked) at h));
          read = λ n h. begun_record q mask puts clients' links' t s b few asked m reading writes count place c n (rw (more-reads q mask puts clients' links' t s b few asked) at h);
          records = begun_records q mask puts clients' links' t s b few asked m reading writes count place c;
        })

module _ (q mask : ℕ) (t : Tables) (s : Sound t) (b : Beginnable q mask t) (few : reads_of t < record_places) where
  -- "A: take the last tag and its keys from panel 0's log, then ask each masked station for its key."
  module _ (part : method_of t ≡ 1) (reader : (eqb (method_of t) 1 && not (eqb q 0)) ≡ false) where
    sent_a : Sent (after_a q mask t s b few part reader) q
    sent_a =
        gets-sent q mask (last_tag t) t.links t (after_a q mask t s b few part reader) s (moves-numbers q t (after_a q mask t s b few part reader) (moves_a q mask t s b few part reader)) b.client (last_within q mask t s b few part reader) b.masked (empty q mask t s b few) (links_room q mask t s b few) refl (word_a q mask t s b few part reader state_field (omega arith)) (word_a q mask t s b few part reader mask_field (omega arith))
        (allowed_by-A (method_of t) q part reader)
        (rw (word_a q mask t s b few part reader count_field (omega arith)) (counted q mask t s b few))
        (rw (word_a q mask t s b few part reader tag_field (omega arith), same_entries q t (after_a q mask t s b few part reader) (moves_a q mask t s b few part reader)) (last_within q mask t s b few part reader))
        (rw (row_asked_a q mask t s b few part reader).badge (c q mask t s b few).badge)
        (kept-within q mask (puts_a q mask t s b few part reader) (row_a q mask t s b few part reader) (links_a q mask t s b few part reader) t s b few (row_asked_a q mask t s b few part reader) (moves_a q mask t s b few part reader))
        (none_received q mask (puts_a q mask t s b few part reader) (row_a q mask t s b few part reader) (links_a q mask t s b few part reader) t s b few (row_asked_a q mask t s b few part reader))

    kept_a : Kept q t (after_a q mask t s b few part reader)
    kept_a =
        begun_kept q mask (puts_a q mask t s b few part reader) (row_a q mask t s b few part reader) (links_a q mask t s b few part reader) t s b few (row_asked_a q mask t s b few part reader) (moves_a q mask t s b few part reader) (rw (word_a q mask t s b few part reader state_field (omega arith))) (rw (word_a q mask t s b few part reader state_field (omega arith))) (word_a q mask t s b few part reader count_field (omega arith)) (word_a q mask t s b few part reader record_field (omega arith)) (sent-client (after_a q mask t s b few part reader) q sent_a)

  -- "B: ask the head"
  module _ (part : method_of t ≡ 2) where
    sent_b : Sent (after_b q mask t s b few part) q
    sent_b =
        let n = moves-numbers q t (after_b q mask t s b few part) (moves_b q mask t s b few part) in
        let state = word_b q mask t s b few part state_field (omega arith) in
        let masked = word_b q mask t s b few part mask_field (omega arith) in
        let used : (i : ℕ) → uses (state_of (after_b q mask t s b few part) q) (mask_of (after_b q mask t s b few part) q) i ≡ eqb i coordinator = λ i. rw (state, masked) (uses-keys mask i) in
        record {
          allowed = rw (n.method, state) (allowed_by-B (method_of t) q part);
          count = rw (state, word_b q mask t s b few part count_field (omega arith)) (record { least = omega arith; most = counted q mask t s b few });
          mask = rw (masked, n.servers) b.masked;
          tag = rw (word_b q mask t s b few part tag_field (omega arith), same_entries q t (after_b q mask t s b few part) (moves_b q mask t s b few part)) (c q mask t s b few).tag;
          badge = rw (row_asked_b q mask t s b few part).badge (c q mask t s b few).badge;
          kept = kept-within q mask (puts_b q mask t s b few part) (row_b q mask t s b few part) (links_b q mask t s b few part) t s b few (row_asked_b q mask t s b few part) (moves_b q mask t s b few part);
          some = (coordinator, omega arith, used coordinator);
          asked = λ i h u. let e = eqb-true i coordinator (sym (used i) ∙ u) in rw e (put_same t.links q coordinator ask 0 (link_row_lem t s q b.client coordinator (omega arith)) (omega arith));
          good = λ i h u. rw state (request-keys (after_b q mask t s b few part) q _ _);
          badged = λ i h u. no-badge writing (state_of (after_b q mask t s b few part) q) (badge_on (after_b q mask t s b few part) q i) (λ e. omega (arith, state));
          rest = λ i h u. put_beside t.links q coordinator ask i 0 (eqb-false i coordinator (sym (used i) ∙ u)) (omega arith) ∙ empty q mask t s b few i h;
          received = none_received q mask (puts_b q mask t s b few part) (row_b q mask t s b few part) (links_b q mask t s b few part) t s b few (row_asked_b q mask t s b few part);
        }

    kept_b : Kept q t (after_b q mask t s b few part)
    kept_b =
        begun_kept q mask (puts_b q mask t s b few part) (row_b q mask t s b few part) (links_b q mask t s b few part) t s b few (row_asked_b q mask t s b few part) (moves_b q mask t s b few part) (rw (word_b q mask t s b few part state_field (omega arith))) (rw (word_b q mask t s b few part state_field (omega arith))) (word_b q mask t s b few part count_field (omega arith)) (word_b q mask t s b few part record_field (omega arith)) (sent-client (after_b q mask t s b few part) q sent_b)

  -- "C: ask all masked stations and the head together"
  module _ (other : method_of t ≡ 1 → ⊥) (another : method_of t ≡ 2 → ⊥) where
    sent_c : Sent (after_c q mask t s b few other another) q
    sent_c =
        let n = moves-numbers q t (after_c q mask t s b few other another) (moves_c q mask t s b few other another) in
        let state = word_c q mask t s b few other another state_field (omega arith) in
        let masked = word_c q mask t s b few other another mask_field (omega arith) in
        let used : (i : ℕ) → uses (state_of (after_c q mask t s b few other another) q) (mask_of (after_c q mask t s b few other another) q) i ≡ (has_server mask i || eqb i coordinator) = λ i. rw (state, masked) (uses-all mask i) in
        record {
          allowed = rw (n.method, state) (allowed_by-C (method_of t) q other another);
          count = rw (state, word_c q mask t s b few other another count_field (omega arith)) (record { least = omega arith; most = counted q mask t s b few });
          mask = rw (masked, n.servers) b.masked;
          tag = rw (word_c q mask t s b few other another tag_field (omega arith), same_entries q t (after_c q mask t s b few other another) (moves_c q mask t s b few other another)) (c q mask t s b few).tag;
          badge = rw (row_asked_c q mask t s b few other another).badge (c q mask t s b few).badge;
          kept = kept-within q mask (puts_c q mask t s b few other another) (row_c q mask t s b few other another) (links_c q mask t s b few other another) t s b few (row_asked_c q mask t s b few other another) (moves_c q mask t s b few other another);
          some = (coordinator, omega arith, used coordinator ∙ or-true (has_server mask coordinator));
          asked = λ i h u. asked_c q mask t s b few other another i (sym (used i) ∙ u);
          good = λ i h u. rw state (request-all (after_c q mask t s b few other another) q _ _);
          badged = λ i h u. no-badge writing (state_of (after_c q mask t s b few other another) q) (badge_on (after_c q mask t s b few other another) q i) (λ e. omega (arith, state));
          rest = λ i h u. rest_c q mask t s b few other another i h (sym (used i) ∙ u);
          received = none_received q mask (puts_c q mask t s b few other another) (row_c q mask t s b few other another) (links_c q mask t s b few other another) t s b few (row_asked_c q mask t s b few other another);
        }

    kept_c : Kept q t (after_c q mask t s b few other another)
    kept_c =
        begun_kept q mask (puts_c q mask t s b few other another) (row_c q mask t s b few other another) (links_c q mask t s b few other another) t s b few (row_asked_c q mask t s b few other another) (moves_c q mask t s b few other another) (rw (word_c q mask t s b few other another state_field (omega arith))) (rw (word_c q mask t s b few other another state_field (omega arith))) (word_c q mask t s b few other another count_field (omega arith)) (word_c q mask t s b few other another record_field (omega arith)) (sent-client (after_c q mask t s b few other another) q sent_c)

  begun-read : (eqb (method_of t) 1 && not (eqb q 0)) ≡ false → Kept q t (formerly_begun_read q mask t)
  unfolding formerly_begun_read
  begun-read reader =
      by_equal (method_of t) 1
      (λ e. rw (eq-eqb (method_of t) 1 e) (kept_a e reader))
      (λ d. by_equal (method_of t) 2
      (λ e. rw (ne_eqb (method_of t) 1 d, eq-eqb (method_of t) 2 e) (kept_b e))
      (λ f. rw (ne_eqb (method_of t) 1 d, ne_eqb (method_of t) 2 f) (kept_c d f)))

module _ (q mask : ℕ) (t : Tables) (s : Sound t) (a : Readable q mask t) where
  pub begun_read-kept : Kept q t (formerly_begun_read q mask t)
  begun_read-kept = begun-read q mask t s a.begin a.few a.part
