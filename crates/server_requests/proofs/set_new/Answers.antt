-- `server_requests::set_new` meets its contract: stored or full, each a case law of `on_new_set`.
use Rattle.tables.specs.Tables.{tables_of}
use Rattle.server_requests.specs.Cases.{set_step, set-stored, set_full}
use borrow.Author.Rules.{rules}
use Rattle.server_requests.proofs.set_new.Goals as goal

pub answer-requires : goal.answer-requires
answer-requires c =
    let a = c.args in
    let p = c.requires.fillable in
    let n = set_step a.contents a.client a.target (tables_of a.counts.now a.counts.now a.links.now a.keys.now
    a.values.now a.counts.now a.counts.now a.counts.now) c.append.ensures in
    record { counted = search rules; stepped = rw n p.stepped; linked = p.linked }

pub returns-then-append : goal.returns-then-append
returns-then-append c =
    λ clients log writes reads.
    set-stored _ _ _ _ c.append.ensures c.if-append.true c.answer.ensures

pub returns : goal.returns
returns c =
    λ clients log writes reads.
    set_full _ _ _ _ c.append.ensures c.if-append.false
