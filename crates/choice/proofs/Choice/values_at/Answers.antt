-- `choice::Choice::values_at` meets its contract: the walk found the tags; the masked servers that the loop has passed serve, and the rows
-- have their values. One that lacks its key ends it.
use Rattle.std.proofs.Common.{◌<◌, sym, ap, ◌∙◌, arith}
use Rattle.ranges.specs.AllLaws.{all-not}
use Rattle.keys.specs.Masks.{has_server}
use Rattle.tables.specs.Layout.{entry_key}
use Rattle.coordinator.specs.Latest.{latest_tag_at}
use Rattle.coordinator.specs.LatestLaws.{latest-within}
use Rattle.log_search.specs.TagsLaws.{laid_there}
use Rattle.rules.specs.Choice.{serves}
use Rattle.rules.specs.Reply.{received_in}
use Rattle.holders.specs.Looked.{none-where, place-where}
use Rattle.choice.specs.declared.Found.{Found}
use Rattle.choice.specs.Values.{taken_none, taken_more, taken_past}
use Rattle.choice.specs.Cases.{spared, sought}
use Rattle.choice.proofs.Choice.values_at.Goals as goal
use Rattle.choice.proofs.Choice.values_at.Goals.{then-has_server+in-Some, else-has_server}

pub loop-server-init : goal.loop-server-init
loop-server-init c =
    let w = c.args.self.now in
    let r = w.receipts in
    taken_none r.keys.now w.values.now w.log.now w.mask (received_in r.clients.now r.client) c.args.tag c.args.found.now.long.0 c.args.found.now.long.1

-- the tag of a masked server is the latest's, at most the tag asked for: its entry is there
pub entry_key-key-requires : goal.entry_key-key-requires
entry_key-key-requires c =
    let w = c.args.self.now in
    let n = c.loop-server.server in
    let found =
    laid_there (has_server w.mask) (latest_tag_at w.log.now c.args.tag) w.receipts.servers n _ c.latest_tags.ensures
    (rw c.requires.zeros (omega arith)) w.ready.servers c.loop-server-test.true (sym c.has_server.ensures ∙ c.if-has_server.true) in
    omega (arith, found, latest-within w.log.now n c.args.tag, c.requires.there.there)

pub returns-in_default-clause-value : goal.returns-in_default-clause-value
returns-in_default-clause-value c =
    let w = c.args.self.now in
    let r = w.receipts in
    let received = received_in r.clients.now r.client in
    let n = c.loop-server.server in
    let has = c.has_server.ensures in
    let found =
    laid_there (has_server w.mask) (latest_tag_at w.log.now c.args.tag) r.servers n _ c.latest_tags.ensures
    (rw c.requires.zeros (omega arith)) w.ready.servers c.loop-server-test.true (sym has ∙ c.if-has_server.true) in
    let key = c.entry_key-key.ensures ∙ ap (entry_key w.log.now) found in
    sym (all-not (serves r.keys.now w.log.now w.mask received c.args.tag) r.servers n c.loop-server-test.true
    (sym (sought r.keys.now w.log.now w.mask received c.args.tag n has c.if-has_server.true key) ∙ none-where _ _ c.in_default.ensures))

pub returns-in_default-clause-rows : goal.returns-in_default-clause-rows
returns-in_default-clause-rows c =
    let w = c.args.self.now in
    let r = w.receipts in
    let v = c.loop-server.invariant in
    taken_none r.keys.now w.values.now w.log.now w.mask (received_in r.clients.now r.client) c.args.tag v.setpoint.long v.badge.long

pub loop-server-preserved : goal.loop-server-preserved
loop-server-preserved c =
    let w = c.args.self.now in
    let r = w.receipts in
    let received = received_in r.clients.now r.client in
    let n = c.loop-server.server in
    let has = c.has_server.ensures in
    let few : n < 16 = omega (arith, w.ready.servers, c.loop-server-test.true) in
    let v = c.loop-server.invariant in
    elim c.if-has_server.branch [
      | then-has_server+in-Some b ↦
          let found =
          laid_there (has_server w.mask) (latest_tag_at w.log.now c.args.tag) r.servers n _ c.latest_tags.ensures
          (rw c.requires.zeros (omega arith)) w.ready.servers c.loop-server-test.true (sym has ∙ b.if-has_server.true) in
          let key = b.entry_key-key.ensures ∙ ap (entry_key w.log.now) found in
          let there = place-where _ _ b.in-Some.ensures in
          taken_more r.keys.now w.values.now w.log.now w.mask received c.args.tag few v
          (sym (sought r.keys.now w.log.now w.mask received c.args.tag n has b.if-has_server.true key) ∙ there.0)
          (there.1 ∙ rw key)
          b.version_setpoint.ensures b.version_badge.ensures
          (ap (λ (f : Found). f.setpoints) b.found-is) (ap (λ (f : Found). f.badges) b.found-is)
      | else-has_server b ↦
          taken_past r.keys.now w.values.now w.log.now w.mask received c.args.tag few v
          (spared r.keys.now w.log.now w.mask received c.args.tag n has b.if-has_server.false) (sym has ∙ b.if-has_server.false)
          (ap (λ (f : Found). f.setpoints) b.found-is) (ap (λ (f : Found). f.badges) b.found-is)
    ]
