-- `qualifying_tag::Walk::greatest` meets its contract: before each tag come to, the loop has the servers that lack their key at the tag
-- before it, and the last tag so far at which none does.
use Rattle.std.proofs.Common.{◌≡◌, ◌+◌, ◌-◌, sym, ◌∙◌, arith}
use Rattle.ranges.specs.LastLaws.{last-here, last-before}
use Rattle.rules.specs.Choice.{qualifies}
use Rattle.rules.specs.Reply.{received_in}
use Rattle.qualifying_tag.specs.Walk.{Lacking, lacking-first, lacking-next, walk_begins, none_lacking, some_lacking}
use Rattle.qualifying_tag.proofs.Walk.greatest.Goals as goal
use Rattle.qualifying_tag.proofs.Walk.greatest.Goals.{then-lacking-eq0, else-lacking-eq0}

pub loop-tag-init : goal.loop-tag-init
loop-tag-init c =
    let w = c.args.self.now in
    let r = w.receipts in
    let received = received_in r.clients.now r.client in
    record {
      lacking = lacking-first r.keys.now w.log.now received w.wanted r.servers w.few w.holders.now w.marked
          (c.without-lacking.ensures ∙ rw c.holding.ensures);
      chosen = walk_begins r.keys.now w.log.now received w.wanted r.servers w.few;
    }

pub loop-tag-preserved : goal.loop-tag-preserved
loop-tag-preserved c =
    let w = c.args.self.now in
    let r = w.receipts in
    let received = received_in r.clients.now r.client in
    let q = qualifies r.keys.now w.log.now w.wanted received r.servers in
    let tag = c.loop-tag.tag in
    let here : tag - 1 + 1 ≡ tag = omega arith in
    let behind : tag + 1 - 1 ≡ tag = omega arith in
    let l = c.lacking_at-lacking.result in
    let lacking : Lacking r.keys.now w.log.now received w.wanted tag l =
    rw here at (lacking-next r.keys.now w.log.now received w.wanted r.servers w.few w.holders.now w.marked (tag - 1) c.loop-tag.lacking
    {r = l} c.loop-tag.invariant.lacking (rw here c.lacking_at-lacking.ensures)) in
    record {
      lacking = rw behind lacking;
      chosen = elim c.if-lacking-eq0.branch [
        | then-lacking-eq0 v ↦ v.chosen-is
            ∙ sym (last-here q tag (none_lacking r.keys.now w.log.now received w.wanted r.servers w.few tag l lacking v.if-lacking-eq0.true))
        | else-lacking-eq0 v ↦ v.chosen-is ∙ c.loop-tag.invariant.chosen
            ∙ sym (last-before q tag
            (some_lacking r.keys.now w.log.now received w.wanted r.servers w.few tag l lacking c.lacking_at-lacking.type_inv v.if-lacking-eq0.false))
      ];
    }
