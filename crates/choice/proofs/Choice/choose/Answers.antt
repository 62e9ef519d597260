-- `choice::Choice::choose` meets its contract: the newest tag is tried first, and then the one that the walk chose among the first servers
-- of the mask, which are all that count.
use Rattle.std.proofs.Common.{◌≡◌, true, sym, ◌∙◌, arith}
use Rattle.rules.specs.Reply.{received_in}
use Rattle.qualifying_tag.specs.Walk.{newest_chosen, chosen-below, chosen-serves, few_wanted, same_choice}
use Rattle.choice.proofs.Choice.choose.Goals as goal

pub returns-then-values_at-clause-value : goal.returns-then-values_at-clause-value
returns-then-values_at-clause-value c =
    let w = c.args.self.now in
    let r = w.receipts in
    newest_chosen r.keys.now w.log.now w.mask (received_in r.clients.now r.client) r.servers c.args.entries c.requires.choosable.some
    (sym c.values_at.ensures.value ∙ c.if-values_at.true)

pub greatest_tag-tag-requires-clause-few : goal.greatest_tag-tag-requires-clause-few
greatest_tag-tag-requires-clause-few c =
    let w = c.args.self.now in
    let r = w.receipts in
    few_wanted r.keys.now w.log.now w.mask (received_in r.clients.now r.client) r.servers c.first_servers-wanted.ensures

pub values_at-requires-2-clause-there : goal.values_at-requires-2-clause-there
values_at-requires-2-clause-there c =
    let w = c.args.self.now in
    let r = w.receipts in
    let received = received_in r.clients.now r.client in
    let o = c.requires.choosable in
    let tag = c.greatest_tag-tag.ensures ∙ same_choice r.keys.now w.log.now w.mask received r.servers c.first_servers-wanted.ensures c.args.entries in
    let below = chosen-below r.keys.now w.log.now w.mask received r.servers c.args.entries o.some in
    record { place = omega (arith, tag, below, o.few); there = omega (arith, tag, below, o.logged) }

pub returns-clause-value : goal.returns-clause-value
returns-clause-value c =
    let w = c.args.self.now in
    let r = w.receipts in
    c.greatest_tag-tag.ensures
    ∙ same_choice r.keys.now w.log.now w.mask (received_in r.clients.now r.client) r.servers c.first_servers-wanted.ensures c.args.entries

pub returns-clause-rows : goal.returns-clause-rows
returns-clause-rows c =
    let w = c.args.self.now in
    let r = w.receipts in
    let received = received_in r.clients.now r.client in
    let o = c.requires.choosable in
    let tag = c.greatest_tag-tag.ensures ∙ same_choice r.keys.now w.log.now w.mask received r.servers c.first_servers-wanted.ensures c.args.entries in
    let serves = chosen-serves r.keys.now w.log.now w.mask received r.servers c.args.entries o.some o.opening in
    let all : c.values_at-2.result ≡ true = rw (c.values_at-2.ensures.value, tag) serves in
    rw all at c.values_at-2.ensures.rows
