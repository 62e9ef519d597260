-- `coordinator::search_back` meets its contract: each way of the search is a case law of `latest_tag`. The measure is the tag, which falls by one at
-- each call.
use mathlib.Core.Path.{ap, ◌∙◌}
use Rattle.coordinator.specs.Latest.{entry_at}
use Rattle.coordinator.specs.LatestLaws.{latest-here, latest-before}
use Rattle.coordinator.proofs.LatestLaws.{latest-first}
use Rattle.coordinator.proofs.+search_back.Goals as goal

pub returns-then-tag-eq0 : goal.returns-then-tag-eq0
returns-then-tag-eq0 t c = let a = c.args in ap (entry_at a.log.now.now) (latest-first a.log.now.now a.server a.tag c.if-tag-eq0.true)

pub returns-then-has_server : goal.returns-then-has_server
returns-then-has_server t c =
    let a = c.args in
    ap (entry_at a.log.now.now) (latest-here a.log.now.now a.server a.tag c.entry_mask.ensures c.has_server.ensures c.if-has_server.true)

pub returns : goal.returns
returns t c =
    let a = c.args in
    c.search_back.ensures
    ∙ ap (entry_at a.log.now.now)
    (latest-before a.log.now.now a.server a.tag c.entry_mask.ensures c.has_server.ensures c.if-tag-eq0.false c.if-has_server.false)
