-- `qualifying_tag::Walk::greatest` meets its contract: before each tag come to, the loop has the servers that lack their key at the tag
-- before it, and the last tag so far at which none does.
use Rattle.std.proofs.Common.{◌≡◌, ◌-◌}
use Rattle.ranges.specs.Last.{last_below}
use Rattle.rules.specs.Choice.{qualifies}
use Rattle.rules.specs.Reply.{received_in}
use Rattle.qualifying_tag.specs.Walk.{Lacking}
use Rattle.qualifying_tag.proofs.Walk.greatest.Given as goal

abbrev pub invariant-loop-tag : goal.invariant-loop-tag
invariant-loop-tag l =
    let s = l.self in
    let received = received_in s.receipts.clients.now s.receipts.client in
    record {
      lacking : Lacking s.receipts.keys.now s.log.now received s.wanted (l.tag - 1) l.lacking;
      chosen : l.chosen ≡ last_below (qualifies s.receipts.keys.now s.log.now s.wanted received s.receipts.servers) l.tag;
    }
