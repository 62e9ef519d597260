-- `link_frames::write_link` meets its contract: each content of the link is a case law.
use native.Mathlib.Omega.{arith}
use Rattle.tables.specs.Lent.{tables_lent}
use Rattle.wire.specs.Ready.{request-ready, reply-ready}
use Rattle.wire.specs.Cases.{link-empty, link_lost, link-request, link-reply}
use Rattle.link_frames.proofs.write_link.Goals as goal

pub client_word-state-requires : goal.client_word-state-requires
client_word-state-requires c =
    record {
      has_row = c.requires.row;
      field_lt_client_width = omega arith;
    }

pub link_at-link-requires : goal.link_at-link-requires
link_at-link-requires c = c.requires.linked

pub overflow_cast-from : goal.overflow_cast-from
overflow_cast-from c = record { fits = omega (arith, c.requires.client) }

pub overflow_cast-to : goal.overflow_cast-to
overflow_cast-to c = record { fits = omega (arith, c.requires.target) }

pub request_message-requires : goal.request_message-requires
request_message-requires c =
    let a = c.args in
    request-ready a.client a.target
    (tables_lent a.t.now)
    c.requires _ c.client_word-state.ensures
    c.link_at-link.ensures c.in-Request.is

pub write_reply-requires : goal.write_reply-requires
write_reply-requires c =
    let a = c.args in
    reply-ready a.client a.target
    (tables_lent a.t.now)
    c.requires _ c.client_word-state.ensures
    c.link_at-link.ensures c.in-Reply.is

pub returns-in-Nothing : goal.returns-in-Nothing
returns-in-Nothing c =
    let a = c.args in
    link-empty a.client a.target
    (tables_lent a.t.now) a.bytes.now
    c.link_at-link.ensures c.in-Nothing.is

pub returns-in-Lost : goal.returns-in-Lost
returns-in-Lost c =
    let a = c.args in
    link_lost a.client a.target
    (tables_lent a.t.now) a.bytes.now
    c.link_at-link.ensures c.in-Lost.is

pub returns-in-Request : goal.returns-in-Request
returns-in-Request c =
    let a = c.args in
    link-request a.client a.target
    (tables_lent a.t.now) a.bytes.now
    c.link_at-link.ensures _ c.in-Request.is
    c.client_word-state.ensures
    c.request_message.ensures c.write_alone.ensures

pub returns-in-Reply : goal.returns-in-Reply
returns-in-Reply c =
    let a = c.args in
    link-reply a.client a.target
    (tables_lent a.t.now) a.bytes.now
    c.link_at-link.ensures _ c.in-Reply.is
    c.client_word-state.ensures
    c.write_reply.ensures
