-- What the deliveries of replies share: the step counts, the client's row and links move, and a record may end.
use Rattle.std.specs.Prelude.{ℕ, ◌+◌, ◌*◌, ◌<◌, ◌≡◌, refl, true, false, List, length}
use Rattle.std.proofs.Common.{◌∙◌, arith, length-set}
use Rattle.ranges.specs.Tests.{by_equal}
use Rattle.ranges.specs.SumLaws.{sum_same}
use Rattle.tables.specs.Rows.{HasRow}
use Rattle.tables.specs.Layout.{last_step, writes_field, reads_field, state_field, record_field, client_width, client_word, record_width}
use Rattle.tables.specs.Layout.{record_word, client_of_record, number_of_record, badge_of_record, tag_of_record, end_of_record, count_field}
use Rattle.tables.specs.Links.{targets, link_width}
use Rattle.tables.specs.Tables.{Tables, tables_of, clients_of, step_of, entries_of, writes_of, reads_of, state_of, count_of, record_of}
use Rattle.rules.specs.Common.{idle, next_step, counted, ended_record, tagged_record}
use Rattle.soundness.specs.Sound.{is_writing, is_reading, open_sound}
use Rattle.soundness.specs.Facts.{Doing, doing_facts, ClientFacts, WriteFacts, ReadFacts, Sound}
use Rattle.soundness.specs.Room.{write_open, write-row, read-row}
use Rattle.keeping.specs.Links.{link_word}
use Rattle.keeping.specs.Frame.{Kept, write_kept, read_kept}
use Rattle.keeping.specs.Moves.{Moves, moves-numbers, same_entries, counted_other, counted_step, counted-length}
use Rattle.keeping.specs.Records.{open_kept, tagged-word, tagged_other, tagged-here, tagged_open, ended-word, records-same, records-idle, records-ended}

abbrev pub replied_tables : List ℕ → List ℕ → List ℕ → List ℕ → Tables → Tables
replied_tables clients' links' writes' reads' t = tables_of (counted t.counts) clients' links' t.keys t.values t.log writes' reads'

-- The rows and links that a reply leaves: others' stay, and nothing gets longer.
pub record Moving (q : ℕ) (clients' links' : List ℕ) (t : Tables) : Type 0 where
  pub row : (p f : ℕ) → (p ≡ q → ⊥) → f < client_width → client_word clients' p f ≡ client_word t.clients p f
  pub link : (p i f : ℕ) → (p ≡ q → ⊥) → i < targets → f < link_width → link_word links' p i f ≡ link_word t.links p i f
  pub clients : length clients' ≡ length t.clients
  pub links : length links' ≡ length t.links

-- the others stay in their states, and their records at their places
module _ {q : ℕ} {clients' links' : List ℕ} {t : Tables} (v : Moving q clients' links' t) where
  pub state-stays : (p : ℕ) → (p ≡ q → ⊥) → client_word clients' p state_field ≡ state_of t p
  state-stays p d = v.row p state_field d (omega arith)

  pub place-stays : (p : ℕ) → (p ≡ q → ⊥) → client_word clients' p record_field ≡ record_of t p
  place-stays p d = v.row p record_field d (omega arith)

module _ (q : ℕ) (clients' links' writes' reads' : List ℕ) (t : Tables) (s : Sound t) (client : q < clients_of t) (early : step_of t < last_step)
    (v : Moving q clients' links' t) (writes-long : length writes' ≡ length t.writes) (reads-long : length reads' ≡ length t.reads) where
  abbrev pub after : Tables
  after = replied_tables clients' links' writes' reads' t

  pub replied-moves : Moves q t after
  replied-moves =
      record {
        count = λ f d e g. counted_other t.counts f d;
        keys = refl;
        values = refl;
        log = refl;
        row = v.row;
        link = v.link;
        lengths = record { counts = counted-length t.counts; clients = v.clients; links = v.links; keys = refl; values = refl; log = refl; writes = writes-long; reads = reads-long };
      }

  pub same_writes : writes_of after ≡ writes_of t
  same_writes = counted_other t.counts writes_field (λ e. omega arith)

  pub same_reads : reads_of after ≡ reads_of t
  same_reads = counted_other t.counts reads_field (λ e. omega arith)

  -- records that stay are as sound as before
  pub write-stays : writes' ≡ t.writes → (n : ℕ) → n < writes_of t → WriteFacts after n
  write-stays e n h = write_kept t after (moves-numbers q t after replied-moves) n (rw e) (rw e) (rw e)
      (rw (e, same_entries q t after replied-moves) (s.write n h).tag) (s.write n h)

  pub read_stays : reads' ≡ t.reads → (n : ℕ) → n < reads_of t → ReadFacts after n
  read_stays e n h = read_kept t after (moves-numbers q t after replied-moves) n (rw e) (rw e) (rw (e, same_entries q t after replied-moves) (s.read n h).tag) (s.read n h)

-- No record ends: the client goes on with what it is doing.
module _ (q : ℕ) (clients' links' : List ℕ) (t : Tables) (s : Sound t) (client : q < clients_of t) (early : step_of t < last_step) (v : Moving q clients' links' t) where
  abbrev pub going : Tables
  going = replied_tables clients' links' t.writes t.reads t

  pub going-moves : Moves q t going
  going-moves = replied-moves q clients' links' t.writes t.reads t s client early v refl refl

-- "The tag's arrival ends the WRITE": its record gets its end, and the client is idle.
module _ (q : ℕ) (clients' links' : List ℕ) (t : Tables) (s : Sound t) (client : q < clients_of t) (early : step_of t < last_step) (v : Moving q clients' links' t)
    (was : is_writing (state_of t q) ≡ true) (not-other : is_reading (state_of t q) ≡ false) where
  abbrev pub wrote' : List ℕ
  wrote' = ended_record (record_of t q) (next_step t) t.writes

  pub wrote_long : length wrote' ≡ length t.writes
  wrote_long = length-set t.writes (record_width * record_of t q + end_of_record) (next_step t)

  abbrev pub ended : Tables
  ended = replied_tables clients' links' wrote' t.reads t

  pub ended-moves : Moves q t ended
  ended-moves = replied-moves q clients' links' wrote' t.reads t s client early v wrote_long refl

  pub ended_record_lem : (n : ℕ) → n < writes_of t → WriteFacts ended n
  ended_record_lem n h =
      let word = ended-word t.writes (record_of t q) (next_step t) n in
      write_kept t ended (moves-numbers q t ended ended-moves) n (word client_of_record (omega arith) (λ e. omega arith)) (word number_of_record (omega arith) (λ e. omega arith))
      (word badge_of_record (omega arith) (λ e. omega arith))
      (rw (word tag_of_record (omega arith) (λ e. omega arith), same_entries q t ended ended-moves) (s.write n h).tag) (s.write n h)

-- A READ ends: its record gets its tag and its end, and the client is idle.
module _ (q tag : ℕ) (clients' links' : List ℕ) (t : Tables) (s : Sound t) (client : q < clients_of t) (early : step_of t < last_step) (v : Moving q clients' links' t)
    (was : is_reading (state_of t q) ≡ true) (not-other : is_writing (state_of t q) ≡ false) (within : tag < entries_of t) where
  abbrev pub tagged' : List ℕ
  tagged' = tagged_record (record_of t q) tag t.reads

  abbrev pub read' : List ℕ
  read' = ended_record (record_of t q) (next_step t) tagged'

  pub tagged_long : length tagged' ≡ length t.reads
  tagged_long = length-set t.reads (record_width * record_of t q + tag_of_record) tag

  pub read_long : length read' ≡ length t.reads
  read_long = length-set tagged' (record_width * record_of t q + end_of_record) (next_step t) ∙ tagged_long

  abbrev pub finished : Tables
  finished = replied_tables clients' links' t.writes read' t

  -- the tag leaves every record in progress
  pub tagged-before : (p : ℕ) → p < clients_of t → open_sound (is_reading (state_of t p)) tagged' (reads_of t) p (record_of t p) ≡ true
  tagged-before p h = open_kept t.reads tagged' (reads_of t) p (record_of t p) (λ n l. tagged_open t.reads (record_of t q) tag p n) (is_reading (state_of t p)) (s.records p h).read

  pub doing-read : Doing tagged' (reads_of t) q (record_of t q)
  doing-read = doing_facts tagged' (reads_of t) q (record_of t q) (rw was at (tagged-before q client))

  pub read_room : HasRow record_width t.reads (record_of t q)
  read_room = read-row t s q client was

  pub finished-moves : Moves q t finished
  finished-moves = replied-moves q clients' links' t.writes read' t s client early v refl read_long

  finished-tag : (n : ℕ) → n < reads_of t → record_word read' n tag_of_record < entries_of t
  finished-tag n h =
      rw (ended-word tagged' (record_of t q) (next_step t) n tag_of_record (omega arith) (λ e. omega arith))
      (by_equal n (record_of t q)
      (λ e. rw (e, tagged-here t.reads (record_of t q) tag read_room) within)
      (λ d. rw (tagged_other t.reads (record_of t q) tag n tag_of_record (omega arith) d) (s.read n h).tag))

  pub finished_record : (n : ℕ) → n < reads_of t → ReadFacts finished n
  finished_record n h =
      let word : (f : ℕ) → f < record_width → (f ≡ end_of_record → ⊥) → (f ≡ tag_of_record → ⊥) → record_word read' n f ≡ record_word t.reads n f =
      λ f l d e. ended-word tagged' (record_of t q) (next_step t) n f l d ∙ tagged-word t.reads (record_of t q) tag n f l e in
      read_kept t finished (moves-numbers q t finished finished-moves) n
      (word client_of_record (omega arith) (λ e. omega arith) (λ e. omega arith))
      (word number_of_record (omega arith) (λ e. omega arith) (λ e. omega arith))
      (rw (same_entries q t finished finished-moves) (finished-tag n h)) (s.read n h)
