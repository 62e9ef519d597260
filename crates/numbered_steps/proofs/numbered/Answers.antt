-- `numbered_steps::numbered` meets its contract: by its number a step is one of four kinds.
use Rattle.tables.specs.Tables.{tables_of}
use Rattle.workload.specs.Cases.{step-write, step-read, step-request, step-reply}
use Rattle.numbered_steps.proofs.numbered.Goals as goal

pub returns-then-number-panels : goal.returns-then-number-panels
returns-then-number-panels c =
    let a = c.args in
    λ links keys values log writes reads.
    step-write (tables_of a.counts.now a.clients.now links keys values log writes reads) a.number
    c.count_at-panels.ensures c.if-number-panels.true
    c.client_word-count.ensures c.count_at.ensures c.all_servers-all.ensures

pub returns-then-number-panels-2 : goal.returns-then-number-panels-2
returns-then-number-panels-2 c =
    let a = c.args in
    λ links keys values log writes reads.
    step-read (tables_of a.counts.now a.clients.now links keys values log writes reads) a.number
    c.count_at-panels.ensures c.if-number-panels.false
    c.if-number-panels-2.true c.count_at.ensures c.all_servers-all.ensures

pub returns-then-number-panels-3 : goal.returns-then-number-panels-3
returns-then-number-panels-3 c =
    let a = c.args in
    λ links keys values log writes reads.
    step-request (tables_of a.counts.now a.clients.now links keys values log writes reads) a.number
    c.count_at-panels.ensures c.if-number-panels.false
    c.if-number-panels-2.false c.if-number-panels-3.true

pub returns-else-number-panels-3 : goal.returns-else-number-panels-3
returns-else-number-panels-3 c =
    let a = c.args in
    λ links keys values log writes reads.
    step-reply (tables_of a.counts.now a.clients.now links keys values log writes reads) a.number
    c.count_at-panels.ensures c.if-number-panels.false
    c.if-number-panels-2.false c.if-number-panels-3.false
