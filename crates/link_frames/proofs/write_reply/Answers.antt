-- `link_frames::write_reply` meets its contract: one case law for each state.
use native.Mathlib.Omega.{arith}
use Rattle.tables.specs.Lent.{tables_lent}
use Rattle.wire.specs.Cases.{reply_done, reply-entered, reply-keys, reply-got, reply_everything}
use Rattle.link_frames.proofs.write_reply.Goals as goal

pub returns-then-state-eq-WRITING : goal.returns-then-state-eq-WRITING
returns-then-state-eq-WRITING c =
    let a = c.args in
    reply_done a.state a.contents a.client a.target
    (tables_lent a.t.now) a.bytes.now
    c.if-state-eq-WRITING.true c.write_alone.ensures

pub overflow_cast-entered : goal.overflow_cast-entered
overflow_cast-entered c = record { fits = omega (arith, c.requires.entered c.if-state-eq-ENTERING.true) }

pub returns-then-state-eq-ENTERING : goal.returns-then-state-eq-ENTERING
returns-then-state-eq-ENTERING c =
    let a = c.args in
    reply-entered a.state a.contents a.client a.target
    (tables_lent a.t.now) a.bytes.now
    c.if-state-eq-WRITING.false c.if-state-eq-ENTERING.true
    c.write_alone-then-state-eq-ENTERING.ensures

pub count_at-servers-requires : goal.count_at-servers-requires
count_at-servers-requires c = omega (arith, c.requires.counted)

pub write_keys-requires : goal.write_keys-requires
write_keys-requires c =
    let p = c.requires in
    (p.keyed c.if-state-eq-ASKING_KEYS.true, omega (arith, c.count_at-servers.ensures, p.servers))

pub returns-then-state-eq-ASKING_KEYS : goal.returns-then-state-eq-ASKING_KEYS
returns-then-state-eq-ASKING_KEYS c =
    let a = c.args in
    reply-keys a.state a.contents a.client a.target
    (tables_lent a.t.now) a.bytes.now
    c.if-state-eq-WRITING.false c.if-state-eq-ENTERING.false
    c.count_at-servers.ensures c.if-state-eq-ASKING_KEYS.true c.write_keys.ensures

pub overflow_cast-got : goal.overflow_cast-got
overflow_cast-got c = record { fits = c.requires.got c.if-state-eq-ASKING_SETPOINTS.true }

pub returns-then-state-eq-ASKING_SETPOINTS : goal.returns-then-state-eq-ASKING_SETPOINTS
returns-then-state-eq-ASKING_SETPOINTS c =
    let a = c.args in
    reply-got a.state a.contents a.client a.target
    (tables_lent a.t.now) a.bytes.now
    c.if-state-eq-WRITING.false c.if-state-eq-ENTERING.false
    c.if-state-eq-ASKING_KEYS.false c.if-state-eq-ASKING_SETPOINTS.true c.write_alone-then-state-eq-ASKING_SETPOINTS.ensures

pub write_everything-requires : goal.write_everything-requires
write_everything-requires c =
    c.requires.everything
    (record {
      not-writing = c.if-state-eq-WRITING.false;
      not-entering = c.if-state-eq-ENTERING.false;
      not-keys = c.if-state-eq-ASKING_KEYS.false;
      not_setpoints = c.if-state-eq-ASKING_SETPOINTS.false;
    })

pub returns : goal.returns
returns c =
    let a = c.args in
    reply_everything a.state a.contents a.client a.target
    (tables_lent a.t.now) a.bytes.now
    c.if-state-eq-WRITING.false c.if-state-eq-ENTERING.false
    c.if-state-eq-ASKING_KEYS.false c.if-state-eq-ASKING_SETPOINTS.false c.write_everything.ensures
