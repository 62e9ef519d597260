-- `server_requests::get` meets its contract: found or missing, each a case law of `on_get`.
use Rattle.server_requests.specs.Cases.{get-found, get-missing}
use Rattle.server_requests.proofs.get.Goals as goal

pub returns-then-place-held : goal.returns-then-place-held
returns-then-place-held c =
    λ clients log writes reads.
    get-found _ _ _ _
    c.count_at-held.ensures c.find-place.ensures c.if-place-held.true c.version_badge-badge.ensures
    c.version_setpoint-setpoint.ensures c.answer_badged.ensures

pub returns : goal.returns
returns c =
    λ clients log writes reads.
    get-missing _ _ _ _
    c.count_at-held.ensures c.find-place.ensures c.if-place-held.false
