-- `sound_records::count_open` meets its contract: each way out is a law of `OpenCounts`.
use native.Mathlib.Omega.{arith}
use Rattle.ranges.specs.SumLaws.{count_most}
use Rattle.sound_records.specs.Opens.{opens-ended, opens_beyond, opens-more}
use Rattle.soundness.specs.Sound.{is_open}
use Rattle.sound_records.proofs.count_open.Goals as goal

pub returns-then-end-ne0 : goal.returns-then-end-ne0
returns-then-end-ne0 c = opens-ended c.args.records.now c.args.place c.requires.open_counts c.record_word-end.ensures c.if-end-ne0.true

pub returns-then-client-ge16 : goal.returns-then-client-ge16
returns-then-client-ge16 c = opens_beyond c.args.records.now c.args.place c.requires.open_counts c.record_word-client.ensures c.if-client-ge16.true

pub overflow_add-found : goal.overflow_add-found
overflow_add-found c =
    let a = c.args in
    let w = c.record_word-client.result in
    omega (arith, c.requires.open_counts.each w c.if-client-ge16.false, count_most (is_open a.records.now w) a.place)

pub returns : goal.returns
returns c = opens-more c.args.records.now c.args.place c.requires.open_counts c.record_word-client.ensures c.if-client-ge16.false c.record_word-end.ensures c.if-end-ne0.false
