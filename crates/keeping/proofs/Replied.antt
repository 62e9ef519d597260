-- Of specs/Replied: what cites a theorem there that a changed definition can make fail.
use Rattle.std.specs.Prelude.{ℕ, ◌+◌, ◌*◌, ◌<◌, ◌≡◌, refl, true, false, List, length}
use Rattle.std.proofs.Common.{◌∙◌, arith, length-set}
use Rattle.ranges.specs.Tests.{by_equal}
use Rattle.ranges.specs.SumLaws.{sum_same}
use Rattle.tables.specs.Rows.{HasRow}
use Rattle.tables.specs.Layout.{last_step, writes_field, reads_field, state_field, record_field, client_width, client_word, record_width}
use Rattle.tables.specs.Layout.{record_word, client_of_record, number_of_record, badge_of_record, tag_of_record, end_of_record, count_field}
use Rattle.tables.specs.Links.{targets, link_width}
use Rattle.tables.specs.Tables.{Tables, tables_of, clients_of, step_of, entries_of, writes_of, reads_of, state_of, count_of, record_of}
use Rattle.rules.specs.Common.{idle, next_step, counted, ended_record, tagged_record}
use Rattle.soundness.specs.Sound.{is_writing, is_reading, open_sound}
use Rattle.soundness.specs.Facts.{Doing, doing_facts, ClientFacts, WriteFacts, ReadFacts, Sound}
use Rattle.soundness.specs.Room.{write_open, write-row, read-row}
use Rattle.keeping.specs.Links.{link_word}
use Rattle.keeping.specs.Frame.{Kept, write_kept, read_kept}
use Rattle.keeping.proofs.Moves.{moved-kept}
use Rattle.keeping.specs.Moves.{Moves, moves-numbers, same_entries, counted_other, counted_step, counted-length}
use Rattle.keeping.specs.Records.{open_kept, tagged-word, tagged_other, tagged-here, tagged_open, ended-word, records-same, records-idle, records-ended}
use Rattle.keeping.specs.Replied.{Moving, after, doing-read, ended, ended_record_lem, finished, finished_record, going, place-stays, read', read_long, read_room, read_stays, replied-moves, same_reads, same_writes, state-stays, tagged', tagged-before, tagged_long, write-stays, wrote', wrote_long}

module _ (q : ℕ) (clients' links' writes' reads' : List ℕ) (t : Tables) (s : Sound t) (client : q < clients_of t) (early : step_of t < last_step)
    (v : Moving q clients' links' t) (writes-long : length writes' ≡ length t.writes) (reads-long : length reads' ≡ length t.reads) where
  replied-kept : count_of (after q clients' links' writes' reads' t s client early v writes-long reads-long) q ≡ count_of t q → ClientFacts (after q clients' links' writes' reads' t s client early v writes-long reads-long) q → ((n : ℕ) → n < writes_of t → WriteFacts (after q clients' links' writes' reads' t s client early v writes-long reads-long) n) → ((n : ℕ) → n < reads_of t → ReadFacts (after q clients' links' writes' reads' t s client early v writes-long reads-long) n)
      → ((p : ℕ) → p < clients_of t → open_sound (is_writing (state_of (after q clients' links' writes' reads' t s client early v writes-long reads-long) p)) writes' (writes_of t) p (record_of (after q clients' links' writes' reads' t s client early v writes-long reads-long) p) ≡ true)
      → ((p : ℕ) → p < clients_of t → open_sound (is_reading (state_of (after q clients' links' writes' reads' t s client early v writes-long reads-long) p)) reads' (reads_of t) p (record_of (after q clients' links' writes' reads' t s client early v writes-long reads-long) p) ≡ true)
      → Kept q t (after q clients' links' writes' reads' t s client early v writes-long reads-long)
  replied-kept count c w r x y =
      moved-kept q t (after q clients' links' writes' reads' t s client early v writes-long reads-long) s (replied-moves q clients' links' writes' reads' t s client early v writes-long reads-long) (record {
        step = rw (counted_step t.counts s.long.counts) (record { least = omega arith; most = omega arith });
        writes = rw (same_writes q clients' links' writes' reads' t s client early v writes-long reads-long) s.scalars.writes;
        reads = rw (same_reads q clients' links' writes' reads' t s client early v writes-long reads-long) s.scalars.reads;
        client = c;
        counts = rw (same_writes q clients' links' writes' reads' t s client early v writes-long reads-long) (sum_same (count_of (after q clients' links' writes' reads' t s client early v writes-long reads-long)) (count_of t) (clients_of t) (λ p h. by_equal p q (λ e. rw e count) (λ d. v.row p count_field d (omega arith))) ∙ s.counts);
        write = λ n h. w n (rw (same_writes q clients' links' writes' reads' t s client early v writes-long reads-long) at h);
        read = λ n h. r n (rw (same_reads q clients' links' writes' reads' t s client early v writes-long reads-long) at h);
        records = λ p h. record { write = rw (same_writes q clients' links' writes' reads' t s client early v writes-long reads-long) (x p h); read = rw (same_reads q clients' links' writes' reads' t s client early v writes-long reads-long) (y p h) };
      })

-- No record ends: the client goes on with what it is doing.
module _ (q : ℕ) (clients' links' : List ℕ) (t : Tables) (s : Sound t) (client : q < clients_of t) (early : step_of t < last_step) (v : Moving q clients' links' t) where
  pub going-kept : is_writing (state_of (going q clients' links' t s client early v) q) ≡ is_writing (state_of t q) → is_reading (state_of (going q clients' links' t s client early v) q) ≡ is_reading (state_of t q) → count_of (going q clients' links' t s client early v) q ≡ count_of t q →
      record_of (going q clients' links' t s client early v) q ≡ record_of t q → ClientFacts (going q clients' links' t s client early v) q → Kept q t (going q clients' links' t s client early v)
  going-kept w r count place c =
      replied-kept q clients' links' t.writes t.reads t s client early v refl refl count c
      (write-stays q clients' links' t.writes t.reads t s client early v refl refl refl)
      (read_stays q clients' links' t.writes t.reads t s client early v refl refl refl)
      (records-same is_writing q t (going q clients' links' t s client early v) t.writes (writes_of t) (state-stays v) (place-stays v) (λ x g. (s.records x g).write) w place)
      (records-same is_reading q t (going q clients' links' t s client early v) t.reads (reads_of t) (state-stays v) (place-stays v) (λ x g. (s.records x g).read) r place)

-- "The tag's arrival ends the WRITE": its record gets its end, and the client is idle.
module _ (q : ℕ) (clients' links' : List ℕ) (t : Tables) (s : Sound t) (client : q < clients_of t) (early : step_of t < last_step) (v : Moving q clients' links' t)
    (was : is_writing (state_of t q) ≡ true) (not-other : is_reading (state_of t q) ≡ false) where
  pub ended-write-kept : state_of (ended q clients' links' t s client early v was not-other) q ≡ idle → count_of (ended q clients' links' t s client early v was not-other) q ≡ count_of t q → ClientFacts (ended q clients' links' t s client early v was not-other) q → Kept q t (ended q clients' links' t s client early v was not-other)
  ended-write-kept state count c =
      replied-kept q clients' links' (wrote' q clients' links' t s client early v was not-other) t.reads t s client early v (wrote_long q clients' links' t s client early v was not-other) refl count c
      (ended_record_lem q clients' links' t s client early v was not-other)
      (read_stays q clients' links' (wrote' q clients' links' t s client early v was not-other) t.reads t s client early v (wrote_long q clients' links' t s client early v was not-other) refl refl)
      (records-ended is_writing q t (ended q clients' links' t s client early v was not-other) t.writes (writes_of t) (state-stays v) (place-stays v) (λ x g. (s.records x g).write) (next_step t) (write_open t s q client was) (write-row t s q client was) (omega arith) (rw state))
      (records-idle is_reading q t (ended q clients' links' t s client early v was not-other) t.reads (reads_of t) (state-stays v) (place-stays v) (λ x g. (s.records x g).read) not-other (rw state))

-- A READ ends: its record gets its tag and its end, and the client is idle.
module _ (q tag : ℕ) (clients' links' : List ℕ) (t : Tables) (s : Sound t) (client : q < clients_of t) (early : step_of t < last_step) (v : Moving q clients' links' t)
    (was : is_reading (state_of t q) ≡ true) (not-other : is_writing (state_of t q) ≡ false) (within : tag < entries_of t) where
  pub ended-read-kept : state_of (finished q tag clients' links' t s client early v was not-other within) q ≡ idle → count_of (finished q tag clients' links' t s client early v was not-other within) q ≡ count_of t q → ClientFacts (finished q tag clients' links' t s client early v was not-other within) q → Kept q t (finished q tag clients' links' t s client early v was not-other within)
  ended-read-kept state count c =
      replied-kept q clients' links' t.writes (read' q tag clients' links' t s client early v was not-other within) t s client early v refl (read_long q tag clients' links' t s client early v was not-other within) count c
      (write-stays q clients' links' t.writes (read' q tag clients' links' t s client early v was not-other within) t s client early v refl (read_long q tag clients' links' t s client early v was not-other within) refl)
      (finished_record q tag clients' links' t s client early v was not-other within)
      (records-idle is_writing q t (finished q tag clients' links' t s client early v was not-other within) t.writes (writes_of t) (state-stays v) (place-stays v) (λ x g. (s.records x g).write) not-other (rw state))
      (records-ended is_reading q t (finished q tag clients' links' t s client early v was not-other within) (tagged' q tag clients' links' t s client early v was not-other within) (reads_of t) (state-stays v) (place-stays v) (tagged-before q tag clients' links' t s client early v was not-other within) (next_step t) (doing-read q tag clients' links' t s client early v was not-other within) (rw (tagged_long q tag clients' links' t s client early v was not-other within) (read_room q tag clients' links' t s client early v was not-other within)) (omega arith) (rw state))
