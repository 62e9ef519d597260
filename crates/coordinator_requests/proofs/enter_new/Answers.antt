-- `coordinator_requests::enter_new` meets its contract: entered or full, each a case law of `on_new_enter`.
use Rattle.tables.specs.Tables.{tables_of}
use Rattle.coordinator_requests.specs.Cases.{enter_step, enter-entered, enter-full}
use borrow.Author.Rules.{rules}
use Rattle.coordinator_requests.proofs.enter_new.Goals as goal

pub answer-requires : goal.answer-requires
answer-requires c =
    let a = c.args in
    let p = c.requires.fillable in
    let n = enter_step a.contents a.client a.target (tables_of a.counts.now a.clients.now a.links.now
    a.counts.now a.counts.now a.log.now a.writes.now a.counts.now) c.enter.ensures in
    record { counted = search rules; stepped = rw n p.stepped; linked = p.linked }

pub returns-then-enter : goal.returns-then-enter
returns-then-enter c =
    λ keys values reads.
    enter-entered _ _ _ _ c.enter.ensures c.count_at-tag.ensures
    c.client_word-place.ensures c.if-enter.true c.put_record_word.ensures c.answer.ensures

pub returns : goal.returns
returns c =
    λ keys values reads.
    enter-full _ _ _ _ c.enter.ensures c.if-enter.false
