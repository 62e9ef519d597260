-- `server_requests::set` meets its contract: held already or new, each a case law of `on_set`.
use Rattle.server_requests.specs.Cases.{set_held, set_new}
use Rattle.server_requests.proofs.set.Goals as goal

pub returns-then-find-held : goal.returns-then-find-held
returns-then-find-held c =
    λ clients log writes reads.
    set_held _ _ _ _
    c.count_at-held.ensures c.find.ensures c.if-find-held.true c.answer.ensures

pub returns : goal.returns
returns c =
    λ clients log writes reads.
    set_new _ _ _ _
    c.count_at-held.ensures c.find.ensures c.if-find-held.false (c.set_new.ensures clients log writes reads)
