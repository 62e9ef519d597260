-- `requests::answer_in_state` meets its contract: each state is a case law of `on_request_in`.
use mathlib.Core.Path.{sym, ◌∙◌}
use Rattle.requests.specs.Cases.{by-set, by-enter, by-keys, by-get, by_all}
use Rattle.requests.proofs.answer_in_state.Goals as goal

pub set-requires : goal.set-requires
set-requires c =
    let p = c.requires in record {
      fillable = p.fillable;
      at_server = p.asks.set (sym c.client_word-state.ensures ∙ c.if-state-eq-WRITING.true);
    }

pub returns-then-state-eq-WRITING : goal.returns-then-state-eq-WRITING
returns-then-state-eq-WRITING c =
    let a = c.args in
    λ reads.
    by-set _ _ _ _
    c.client_word-state.ensures c.if-state-eq-WRITING.true (c.set.ensures a.clients.now a.log.now a.writes.now reads)

pub enter-requires : goal.enter-requires
enter-requires c =
    let p = c.requires in record {
      fillable = p.fillable;
      enterable = p.asks.enter (sym c.client_word-state.ensures ∙ c.if-state-eq-ENTERING.true);
    }

pub returns-then-state-eq-ENTERING : goal.returns-then-state-eq-ENTERING
returns-then-state-eq-ENTERING c =
    let a = c.args in
    λ reads.
    by-enter _ _ _ _
    c.client_word-state.ensures c.if-state-eq-WRITING.false c.if-state-eq-ENTERING.true (c.enter.ensures a.keys.now a.values.now reads)

pub returns-then-state-eq-ASKING_KEYS : goal.returns-then-state-eq-ASKING_KEYS
returns-then-state-eq-ASKING_KEYS c =
    let a = c.args in
    λ reads.
    by-keys _ _ _ _
    c.client_word-state.ensures c.if-state-eq-WRITING.false c.if-state-eq-ENTERING.false c.if-state-eq-ASKING_KEYS.true (c.which_keys.ensures a.clients.now a.keys.now a.values.now a.log.now a.writes.now reads)

pub get-requires : goal.get-requires
get-requires c =
    let p = c.requires in record {
      fillable = p.fillable;
      at_server = p.asks.get (sym c.client_word-state.ensures ∙ c.if-state-eq-ASKING_SETPOINTS.true);
    }

pub returns-then-state-eq-ASKING_SETPOINTS : goal.returns-then-state-eq-ASKING_SETPOINTS
returns-then-state-eq-ASKING_SETPOINTS c =
    let a = c.args in
    λ reads.
    by-get _ _ _ _
    c.client_word-state.ensures c.if-state-eq-WRITING.false c.if-state-eq-ENTERING.false c.if-state-eq-ASKING_KEYS.false c.if-state-eq-ASKING_SETPOINTS.true (c.get.ensures a.clients.now a.log.now a.writes.now reads)

pub returns : goal.returns
returns c =
    let a = c.args in
    λ reads.
    by_all _ _ _ _
    c.client_word-state.ensures c.if-state-eq-WRITING.false c.if-state-eq-ENTERING.false c.if-state-eq-ASKING_KEYS.false c.if-state-eq-ASKING_SETPOINTS.false (c.get_all.ensures a.clients.now a.keys.now a.values.now a.log.now a.writes.now reads)
