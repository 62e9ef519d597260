-- `losses::sent` meets its contract: each state is a case law of `sent_by`.
use mathlib.Core.Path.{sym, ◌∙◌}
use native.Mathlib.Omega.{arith}
use Rattle.tables.specs.Tables.{with_clients}
use Rattle.losses.specs.Cases.{sends-set, sends-enter, sends-get, sends-ask}
use Rattle.losses.proofs.sent.Goals as goal

pub returns-then-state-eq-WRITING : goal.returns-then-state-eq-WRITING
returns-then-state-eq-WRITING c =
    let a = c.args in
    λ t.
    sends-set a.client a.target (with_clients a.clients.now t) c.client_word-state.ensures
    c.if-state-eq-WRITING.true
    c.client_word-count.ensures c.new-own.ensures
    c.client_word-badge.ensures c.client_word-setpoint.ensures c.requesting.ensures

pub returns-then-state-eq-ENTERING : goal.returns-then-state-eq-ENTERING
returns-then-state-eq-ENTERING c =
    let a = c.args in
    λ t.
    sends-enter a.client a.target (with_clients a.clients.now t) c.client_word-state.ensures
    c.if-state-eq-WRITING.false c.if-state-eq-ENTERING.true
    c.client_word-count.ensures c.new-own.ensures c.client_word-mask.ensures c.requesting-then-state-eq-ENTERING.ensures

pub client_word-asked-requires : goal.client_word-asked-requires
client_word-asked-requires c =
    let server = c.requires.server
    (sym c.client_word-state.ensures ∙ c.if-state-eq-ASKING_SETPOINTS.true) in
    record {
      has_row = c.requires.row;
      field_lt_client_width = omega arith;
    }

pub returns-then-state-eq-ASKING_SETPOINTS : goal.returns-then-state-eq-ASKING_SETPOINTS
returns-then-state-eq-ASKING_SETPOINTS c =
    let a = c.args in
    λ t.
    sends-get a.client a.target (with_clients a.clients.now t) c.client_word-state.ensures
    c.if-state-eq-WRITING.false c.if-state-eq-ENTERING.false
    c.if-state-eq-ASKING_SETPOINTS.true c.client_word-asked.ensures c.at_word.ensures
    c.requesting-then-state-eq-ASKING_SETPOINTS.ensures

pub returns : goal.returns
returns c =
    let a = c.args in
    λ t.
    sends-ask a.client a.target (with_clients a.clients.now t) c.client_word-state.ensures
    c.if-state-eq-WRITING.false c.if-state-eq-ENTERING.false
    c.if-state-eq-ASKING_SETPOINTS.false c.requesting-2.ensures
