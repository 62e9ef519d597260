-- `link_frames::write_link_frame_sound` meets its contract: number 3, or what the link holds, which can always be written.
use native.Mathlib.Omega.{arith}
use Rattle.tables.specs.Lent.{tables_lent}
use Rattle.wire.specs.Always.{Words}
use Rattle.wire.specs.Answers.{frame_absent, is_present, link-ready}
use Rattle.wire.proofs.Answers.{frame-written}
use Rattle.link_frames.proofs.write_link_frame_sound.Goals as goal

pub returns-then-is_absent : goal.returns-then-is_absent
returns-then-is_absent c =
    let a = c.args in
    frame_absent a.client a.target
    (tables_lent a.t.now) c.requires a.bytes.now
    c.is_absent.ensures c.if-is_absent.true

pub write_link-requires : goal.write_link-requires
write_link-requires c =
    let a = c.args in
    link-ready a.client a.target
    (tables_lent a.t.now) c.requires
    (is_present a.client a.target
    (tables_lent a.t.now) c.requires a.bytes.now
    c.is_absent.ensures c.if-is_absent.false)
    a.t.now.writes.now a.t.now.reads.now

pub returns : goal.returns
returns c =
    let a = c.args in
    frame-written a.client a.target
    (tables_lent a.t.now) c.requires a.bytes.now
    c.is_absent.ensures c.if-is_absent.false c.have_words.ensures
    c.write_link.ensures
