-- `qualifying_tag::greatest_tag` meets its contract: the table begins with no holders and is then marked for all servers, so the walk is
-- over a marked one.
use Rattle.std.proofs.Common.{refl}
use Rattle.rules.specs.Reply.{received_in}
use Rattle.holder_slots.specs.Holders.{empty_table, servers-marked}
use Rattle.qualifying_tag.proofs.greatest_tag.Goals as goal

pub invariant_of-walk : goal.invariant_of-walk
invariant_of-walk c =
    let r = c.args.receipts.now in
    record {
      marked = servers-marked r.keys.now c.args.wanted (received_in r.clients.now r.client) r.servers c.requires.few (empty_table 4096 refl)
          c.mark_servers.ensures;
      few = c.requires.few;
    }
