-- `sound_records::records_sound` meets its contract: what was read of the client is passed on, for its WRITEs and then for its READs.
use mathlib.Core.Bool.{not}
use mathlib.Core.Path.{ap}
use mathlib.Core.Path.{◌≡◌}
use Rattle.tables.specs.Tables.{with_counts, with_clients, with_writes, with_reads}
use Rattle.soundness.specs.Parts.{write_open_sound, read_open_sound}
use Rattle.sound_records.specs.Opens.{writes-not-sound, by-reads}
use borrow.Author.Rules.{rules}
use Rattle.sound_records.proofs.records_sound.Goals as goal

pub open_sound-requires : goal.open_sound-requires
open_sound-requires c =
    record {
      begun_le_record_places = search rules;
      found_value = rw c.count_at-writes_begun.ensures c.requires.writing_value.0;
    }

pub returns-then-not-open_sound : goal.returns-then-not-open_sound
returns-then-not-open_sound c =
    λ t. let a = c.args in
    let u = with_reads a.reads.now (with_writes a.writes.now (with_clients a.clients.now (with_counts a.counts.now t))) in
    let written : c.open_sound.result ≡ write_open_sound u a.client =
    rw (← c.client_word-state.ensures, ← c.is_writing.ensures, ← c.client_word-place.ensures, ← c.count_at-writes_begun.ensures) c.open_sound.ensures in
    writes-not-sound u a.client written (ap not c.if-not-open_sound.true)

pub open_sound-requires-2 : goal.open_sound-requires-2
open_sound-requires-2 c =
    record {
      begun_le_record_places = search rules;
      found_value = rw c.count_at-reads_begun.ensures c.requires.writing_value.1;
    }

pub returns : goal.returns
returns c =
    λ t. let a = c.args in
    let u = with_reads a.reads.now (with_writes a.writes.now (with_clients a.clients.now (with_counts a.counts.now t))) in
    let written : c.open_sound.result ≡ write_open_sound u a.client =
    rw (← c.client_word-state.ensures, ← c.is_writing.ensures, ← c.client_word-place.ensures, ← c.count_at-writes_begun.ensures) c.open_sound.ensures in
    let begun : c.open_sound-2.result ≡ read_open_sound u a.client =
    rw (← c.client_word-state.ensures, ← c.is_reading.ensures, ← c.client_word-place.ensures, ← c.count_at-reads_begun.ensures) c.open_sound-2.ensures in
    by-reads u a.client written (ap not c.if-not-open_sound.false) begun
