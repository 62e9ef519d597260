-- `coordinator::enter` meets its contract: full or entered, each a case law of `entered`.
use Rattle.coordinator.specs.LogLaws.{enter-full, enter_done}
use Rattle.coordinator.proofs.enter.Goals as goal

pub returns-then-entries-ge-PLACES : goal.returns-then-entries-ge-PLACES
returns-then-entries-ge-PLACES c = let a = c.args in enter-full a.counts.now a.log.now a.key a.mask c.count_at-entries.ensures c.if-entries-ge-PLACES.true

pub returns : goal.returns
returns c =
    let a = c.args in
    enter_done a.counts.now a.log.now a.key a.mask c.count_at-entries.ensures c.if-entries-ge-PLACES.false c.put_entry.ensures c.put_count.ensures
