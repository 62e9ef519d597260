-- `choice::conclude` meets its contract: the choice, and then its calls put one after another.
use Rattle.std.proofs.Common.{arith}
use Rattle.rules.specs.Choice.{chosen_setpoint, chosen_badge}
use Rattle.rules.specs.Reply.{received_in}
use Rattle.qualifying_tag.specs.Walk.{chosen-below}
use Rattle.choice.specs.Cases.{row-concluded}
use Rattle.choice.proofs.conclude.Goals as goal

pub overflow_cast-tag : goal.overflow_cast-tag
overflow_cast-tag c =
    let a = c.args in
    let o = c.requires.choosable in
    let l = chosen-below a.keys.now a.log.now a.mask (received_in a.clients.now a.client) a.servers a.entries o.some in
    omega (arith, c.choose-tag.ensures.value, l, o.few)

pub returns-clause-clients : goal.returns-clause-clients
returns-clause-clients c =
    let a = c.args in
    let tag = c.choose-tag.result in
    let received = received_in a.clients.now a.client in
    let taken = c.choose-tag.ensures.rows in
    row-concluded (chosen_setpoint a.keys.now a.values.now a.log.now received tag) (chosen_badge a.keys.now a.values.now a.log.now received tag)
    tag a.client a.mask a.servers a.clients.now taken.setpoint taken.badge
    c.keep_words.ensures c.keep_words-2.ensures c.forget_received.ensures c.put_client_word.ensures
