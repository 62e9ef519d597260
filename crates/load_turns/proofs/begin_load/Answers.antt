-- A line that asks for nothing is refused by 13; else the opening's answer decides.
use Rattle.tables.specs.Tables.{tables_of}
use Rattle.rules.specs.ResultLaws.{answer-numbered}
use Rattle.load_text.specs.GivenLaws.{accepted_few, gave-opened}
use Rattle.load_turns.proofs.begin_load.Goals as goal

pub returns-in_default : goal.returns-in_default
returns-in_default c =
    let a = c.args in
    let t = tables_of a.counts.now a.clients.now a.links.now a.keys.now a.values.now a.log.now a.writes.now a.reads.now in
    rw c.in_default.is (rw c.number.ensures at (c.refuse.ensures t))

pub print_opening-requires-clause-servers_bound : goal.print_opening-requires-clause-servers_bound
print_opening-requires-clause-servers_bound c =
    let a = c.args in
    let t = tables_of a.counts.now a.clients.now a.links.now a.keys.now a.values.now a.log.now a.writes.now a.reads.now in
    let o = c.open-answer.new in
    let left = tables_of o.counts o.clients o.links o.keys o.values o.log a.writes.now a.reads.now in
    rw (c.numbered.ensures, answer-numbered c.open-answer.result)
    (accepted_few c.in-Some.wanted t c.min-given.ensures {t' = left} c.open-answer.ensures)

pub returns : goal.returns
returns c =
    let a = c.args in
    let t = tables_of a.counts.now a.clients.now a.links.now a.keys.now a.values.now a.log.now a.writes.now a.reads.now in
    let o = c.open-answer.new in
    let left = tables_of o.counts o.clients o.links o.keys o.values o.log a.writes.now a.reads.now in
    rw c.in-Some.is
    (gave-opened c.in-Some.wanted t c.min-given.ensures {t' = left} c.open-answer.ensures
    (rw (c.numbered.ensures, answer-numbered c.open-answer.result) at (c.print_opening.ensures left)))
