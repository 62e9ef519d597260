-- `link_frames::write_everything` meets its contract: the coordinator, or a server.
use Rattle.wire.specs.Cases.{from-head, from-server}
use Rattle.link_frames.proofs.write_everything.Goals as goal

pub write_log-requires : goal.write_log-requires
write_log-requires c = c.requires.head c.if-target-eq16.true

pub returns-then-target-eq16 : goal.returns-then-target-eq16
returns-then-target-eq16 c =
    let a = c.args in
    from-head a.number a.client a.target a.t.now.keys.now a.t.now.values.now a.t.now.log.now a.bytes.now c.if-target-eq16.true c.write_log.ensures

pub write_all-requires : goal.write_all-requires
write_all-requires c = c.requires.server c.if-target-eq16.false

pub returns : goal.returns
returns c =
    let a = c.args in
    from-server a.number a.client a.target a.t.now.keys.now a.t.now.values.now a.t.now.log.now a.bytes.now c.if-target-eq16.false c.write_all.ensures
