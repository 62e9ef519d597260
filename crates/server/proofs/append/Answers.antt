-- `server::append` meets its contract: full or stored, each a case law of `appended`.
use Rattle.server.specs.HeldLaws.{append-full, append-stored}
use Rattle.server.proofs.append.Goals as goal

pub returns-then-held-ge-PLACES : goal.returns-then-held-ge-PLACES
returns-then-held-ge-PLACES c =
    let a = c.args in
    append-full a.counts.now a.keys.now a.values.now a.server a.key a.badge a.setpoint
    c.count_at-held.ensures
    c.if-held-ge-PLACES.true

pub returns : goal.returns
returns c =
    let a = c.args in
    append-stored a.counts.now a.keys.now a.values.now a.server a.key a.badge a.setpoint
    c.count_at-held.ensures c.if-held-ge-PLACES.false c.put_version.ensures.keys
    c.put_version.ensures.values c.put_count.ensures
