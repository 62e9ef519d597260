-- `sound_records::history_sound` meets its contract: each way out is one more test passed.
use mathlib.Core.Bool.{not}
use mathlib.Core.Path.{ap}
use Rattle.ranges.specs.Tests.{fails, holds}
use Rattle.tables.specs.Tables.{with_counts, with_clients, with_writes, with_reads}
use Rattle.sound_records.proofs.history_sound.Goals as goal

pub returns-then-not-counts_sound : goal.returns-then-not-counts_sound
returns-then-not-counts_sound c =
    λ t. let a = c.args in
    let u = with_reads a.reads.now (with_writes a.writes.now (with_clients a.clients.now (with_counts a.counts.now t))) in
    rw (fails (c.counts_sound.ensures u) (ap not c.if-not-counts_sound.true))

pub returns-then-not-writes_sound : goal.returns-then-not-writes_sound
returns-then-not-writes_sound c =
    λ t. let a = c.args in
    let u = with_reads a.reads.now (with_writes a.writes.now (with_clients a.clients.now (with_counts a.counts.now t))) in
    rw (
      holds (c.counts_sound.ensures u) (ap not c.if-not-counts_sound.false),
      fails (c.writes_sound.ensures u) (ap not c.if-not-writes_sound.true),
    )

pub returns-then-not-reads_sound : goal.returns-then-not-reads_sound
returns-then-not-reads_sound c =
    λ t. let a = c.args in
    let u = with_reads a.reads.now (with_writes a.writes.now (with_clients a.clients.now (with_counts a.counts.now t))) in
    rw (
      holds (c.counts_sound.ensures u) (ap not c.if-not-counts_sound.false),
      holds (c.writes_sound.ensures u) (ap not c.if-not-writes_sound.false),
      fails (c.reads_sound.ensures u) (ap not c.if-not-reads_sound.true),
    )

pub returns : goal.returns
returns c =
    λ t. let a = c.args in
    let u = with_reads a.reads.now (with_writes a.writes.now (with_clients a.clients.now (with_counts a.counts.now t))) in
    rw (
      holds (c.counts_sound.ensures u) (ap not c.if-not-counts_sound.false),
      holds (c.writes_sound.ensures u) (ap not c.if-not-writes_sound.false),
      holds (c.reads_sound.ensures u) (ap not c.if-not-reads_sound.false),
    ) (c.all_records_sound.ensures u)
