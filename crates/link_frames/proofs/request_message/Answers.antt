-- `link_frames::request_message` meets its contract: one case law for each state.
use Rattle.wire.specs.Cases.{request-set, request-enter, request-keys, request-get, request-log, request-all}
use Rattle.link_frames.proofs.request_message.Goals as goal

pub overflow_cast-result : goal.overflow_cast-result
overflow_cast-result c = record { fits = c.requires.set c.if-state-eq-WRITING.true }

pub returns-then-state-eq-WRITING : goal.returns-then-state-eq-WRITING
returns-then-state-eq-WRITING c =
    let a = c.args in
    request-set a.state a.contents a.client a.target c.if-state-eq-WRITING.true

pub returns-then-state-eq-ENTERING : goal.returns-then-state-eq-ENTERING
returns-then-state-eq-ENTERING c =
    let a = c.args in
    request-enter a.state a.contents a.client a.target c.if-state-eq-WRITING.false c.if-state-eq-ENTERING.true

pub returns-then-state-eq-ASKING_KEYS : goal.returns-then-state-eq-ASKING_KEYS
returns-then-state-eq-ASKING_KEYS c =
    let a = c.args in
    request-keys a.state a.contents a.client a.target c.if-state-eq-WRITING.false c.if-state-eq-ENTERING.false
    c.if-state-eq-ASKING_KEYS.true

pub returns-then-state-eq-ASKING_SETPOINTS : goal.returns-then-state-eq-ASKING_SETPOINTS
returns-then-state-eq-ASKING_SETPOINTS c =
    let a = c.args in
    request-get a.state a.contents a.client a.target c.if-state-eq-WRITING.false c.if-state-eq-ENTERING.false
    c.if-state-eq-ASKING_KEYS.false c.if-state-eq-ASKING_SETPOINTS.true

pub returns-then-target-eq16 : goal.returns-then-target-eq16
returns-then-target-eq16 c =
    let a = c.args in
    request-log a.state a.contents a.client a.target c.if-state-eq-WRITING.false c.if-state-eq-ENTERING.false
    c.if-state-eq-ASKING_KEYS.false c.if-state-eq-ASKING_SETPOINTS.false c.if-target-eq16.true

pub returns : goal.returns
returns c =
    let a = c.args in
    request-all a.state a.contents a.client a.target c.if-state-eq-WRITING.false c.if-state-eq-ENTERING.false
    c.if-state-eq-ASKING_KEYS.false c.if-state-eq-ASKING_SETPOINTS.false c.if-target-eq16.false
