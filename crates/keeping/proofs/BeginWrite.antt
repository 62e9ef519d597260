-- Of specs/BeginWrite: what cites a theorem there that a changed definition can make fail.
use Rattle.std.specs.Prelude.{ℕ, ◌+◌, ◌≤◌, ◌<◌, ◌≡◌, refl, true, false, ◌&&◌, List, [], ◌∷◌, get_or, eqb}
use Rattle.std.proofs.Common.{sym, ◌∙◌, arith}
use Rattle.ranges.specs.Tests.{by_equal}
use Rattle.ranges.specs.Sum.{sum_below}
use Rattle.ranges.specs.SumLaws.{sum-set, sum-part}
use Rattle.keys.specs.Keys.{key_of}
use Rattle.keys.specs.Masks.{has_server}
use Rattle.keys.specs.MaskLaws.{some-server}
use Rattle.tables.specs.Rows.{HasRow}
use Rattle.tables.specs.Layout.{writes_field, reads_field, client_width, client_word, record_places, record_width, client_of_record, count_field}
use Rattle.tables.specs.Layout.{mask_field, number_of_record, received_field, record_field, setpoints_field, state_field, tag_field, tag_of_record}
use Rattle.tables.specs.Layout.{badge_of_record, write_badge_field}
use Rattle.tables.specs.Links.{targets, HasLinks, link_width, content_words}
use Rattle.tables.specs.declared.links.Content.{Content}
use Rattle.tables.specs.Tables.{Tables, tables_of, method_of, servers_of, clients_of, step_of, writes_of, reads_of, state_of, count_of, mask_of}
use Rattle.tables.specs.Tables.{record_of, received_of, write_badge_of}
use Rattle.rules.specs.Words.{every}
use Rattle.rules.specs.WordsLaws.{kept_other, kept-length}
use Rattle.rules.specs.Common.{writing, set_request, begun_counts, begun_records}
use Rattle.rules.specs.Begin.{next_count, stored_setpoints, sent_sets, begun_write}
use Rattle.soundness.specs.Sound.{is_writing, is_reading, uses}
use Rattle.soundness.specs.Facts.{ClientFacts, WriteFacts, RecordsFacts, Sound}
use Rattle.soundness.specs.Room.{few_servers, client-fits, client-row, client-links, next-write}
use Rattle.keeping.specs.Accepted.{Beginnable, Writable}
use Rattle.keeping.specs.Links.{link_word}
use Rattle.keeping.specs.States.{masked_below, not-all, received_none, allowed-writing, uses-writing, request-writing}
use Rattle.keeping.specs.States.{carried-badge, asks_none, own-count}
use Rattle.keeping.proofs.Frame.{kept_stay}
use Rattle.keeping.specs.Frame.{Kept, write_kept, read_kept}
use Rattle.keeping.proofs.Moves.{moved-kept}
use Rattle.keeping.specs.Moves.{Moves, moves-numbers, same_entries}
use Rattle.keeping.specs.Records.{begun-word, begun-here, begun_places, records-begun, records-idle}
use Rattle.keeping.specs.Rows.{put, Put, put_all, last_put, put-read, put_skip, put_elsewhere, put-length}
use Rattle.keeping.specs.Rounds.{Sent, sent-client, idle-empty, sent_there, sent-not, sent_others, sent-length}
use Rattle.keeping.specs.Begins.{begun_other, begun_more, begun_step, begun-length}
use Rattle.keeping.specs.BeginWrite.{after, begun-moves, more-writes, next_few, none_received, puts, same_reads, sent, servers_few, setpoints_room, spared, unput, unsent, word, wrote, wrote-sum, wrote_record, wrote_records}

-- A begin of a WRITE, whatever rows and links it leaves.
module _ (q mask badge : ℕ) (clients' links' : List ℕ) (t : Tables) (s : Sound t) (b : Beginnable q mask t)
    (few : writes_of t < record_places)
    (fits : badge < 65536) where
  module _ (m : Moves q t (wrote q mask badge clients' links' t s b few fits)) (state : state_of (wrote q mask badge clients' links' t s b few fits) q ≡ writing) (count : count_of (wrote q mask badge clients' links' t s b few fits) q ≡ next_count t q) (place : record_of (wrote q mask badge clients' links' t s b few fits) q ≡ writes_of t) (c : ClientFacts (wrote q mask badge clients' links' t s b few fits) q) where
    wrote_kept : Kept q t (wrote q mask badge clients' links' t s b few fits)
    wrote_kept =
        let num = moves-numbers q t (wrote q mask badge clients' links' t s b few fits) m in
        moved-kept q t (wrote q mask badge clients' links' t s b few fits) s m (record {
          step = rw (begun_step writes_field t.counts s.long.counts (omega arith) (λ e. omega arith)) (record { least = omega arith; most = omega (arith, b.early) });
          writes = rw (more-writes q mask badge clients' links' t s b few fits) (omega arith);
          reads = rw (same_reads q mask badge clients' links' t s b few fits) s.scalars.reads;
          client = c;
          counts = wrote-sum q mask badge clients' links' t s b few fits m state count place c;
          write = λ n h. wrote_record q mask badge clients' links' t s b few fits m state count place c n (rw (more-writes q mask badge clients' links' t s b few fits) at h);
          read = λ n h. read_kept t (wrote q mask badge clients' links' t s b few fits) num n refl refl (rw (same_entries q t (wrote q mask badge clients' links' t s b few fits) m) (s.read n (rw (same_reads q mask badge clients' links' t s b few fits) at h)).tag) (s.read n (rw (same_reads q mask badge clients' links' t s b few fits) at h));
          records = wrote_records q mask badge clients' links' t s b few fits m state count place c;
        })

-- "Begin a WRITE: next count; a request to each masked station; state 1."
module _ (q mask badge : ℕ) (setpoints : List ℕ) (t : Tables) (s : Sound t) (b : Beginnable q mask t) (few : writes_of t < record_places)
    (part : (eqb (method_of t) 1 && eqb q 0) ≡ false) (fits : badge < 65536) where
  begun-sent : Sent (after q mask badge setpoints t s b few part fits) q
  begun-sent =
      let n = moves-numbers q t (after q mask badge setpoints t s b few part fits) (begun-moves q mask badge setpoints t s b few part fits) in
      let c = s.client q b.client in
      let state = word q mask badge setpoints t s b few part fits state_field (omega arith) in
      let masked = word q mask badge setpoints t s b few part fits mask_field (omega arith) in
      let small = next_few q mask badge t.clients t.links t s b few fits in
      let low = client-fits t s q b.client in
      let has : (i : ℕ) → uses (state_of (after q mask badge setpoints t s b few part fits) q) (mask_of (after q mask badge setpoints t s b few part fits) q) i ≡ has_server mask i = λ i. rw (state, masked) (uses-writing mask i) in
      let below : (i : ℕ) → has_server mask i ≡ true → i < servers_of t = λ i e. masked_below mask (servers_of t) i b.masked.below e in
      record {
        allowed = rw (n.method, state) (allowed-writing (method_of t) q part);
        count = rw (state, word q mask badge setpoints t s b few part fits count_field (omega arith)) (record { least = omega arith; most = small });
        mask = rw (masked, n.servers) b.masked;
        tag = rw (word q mask badge setpoints t s b few part fits tag_field (omega arith), same_entries q t (after q mask badge setpoints t s b few part fits) (begun-moves q mask badge setpoints t s b few part fits)) c.tag;
        badge = rw (spared q mask badge setpoints t s b few part fits q write_badge_field (omega arith) (λ y. omega (arith, y.2, setpoints_room q mask badge setpoints t s b few part fits))
            ∙ put-read q (puts q mask badge setpoints t s b few part fits) t.clients write_badge_field (write_badge_of t q) (client-row t s q b.client) refl (omega arith) refl) fits;
        kept = kept_stay t (after q mask badge setpoints t s b few part fits) n q (few_servers t s)
            (λ f g h d. spared q mask badge setpoints t s b few part fits q f h (λ y. omega (arith, y.2, setpoints_room q mask badge setpoints t s b few part fits)) ∙ unput q mask badge setpoints t s b few part fits f (omega arith) d)
            (λ i. asks_none (after q mask badge setpoints t s b few part fits) q i (λ e. omega (arith, state))) c.kept;
        some = let x = some-server mask (servers_of t) b.masked in (x.0, omega (arith, x.1, servers_few q mask badge setpoints t s b few part fits), has x.0 ∙ x.2);
        asked = λ i h u. let e = sym (has i) ∙ u in sent q mask badge setpoints t s b few part fits i 0 (omega arith) (below i e) e;
        good = λ i h u.
            let e = sym (has i) ∙ u in
            rw (state, sent q mask badge setpoints t s b few part fits i 1 (omega arith) (below i e) e, request-writing)
            (own-count q (next_count t q) (record { least = omega arith; most = small }) (omega (arith, low)));
        badged = λ i h u. let e = sym (has i) ∙ u in rw (sent q mask badge setpoints t s b few part fits i 3 (omega arith) (below i e) e) (carried-badge writing (state_of (after q mask badge setpoints t s b few part fits) q) badge fits);
        rest = λ i h u. unsent q mask badge setpoints t s b few part fits i 0 (omega arith) (sym (has i) ∙ u) ∙ idle-empty t q i c b.free h;
        received = none_received q mask badge setpoints t s b few part fits;
      }

  begun-write : Kept q t (after q mask badge setpoints t s b few part fits)
  begun-write =
      wrote_kept q mask badge (after q mask badge setpoints t s b few part fits).clients (after q mask badge setpoints t s b few part fits).links t s b few fits (begun-moves q mask badge setpoints t s b few part fits) (word q mask badge setpoints t s b few part fits state_field (omega arith))
      (word q mask badge setpoints t s b few part fits count_field (omega arith)) (word q mask badge setpoints t s b few part fits record_field (omega arith)) (sent-client (after q mask badge setpoints t s b few part fits) q begun-sent)

module _ (q mask badge : ℕ) (setpoints : List ℕ) (t : Tables) (s : Sound t) (a : Writable q mask setpoints t) (fits : badge < 65536) where
  pub begun_write-kept : Kept q t (begun_write q mask badge setpoints t)
  unfolding begun_write
  begun_write-kept = begun-write q mask badge setpoints t s a.begin a.few a.part fits
