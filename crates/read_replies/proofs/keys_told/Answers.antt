-- `read_replies::keys_told` meets its contract: the words put and the requests sent are those of `on_keys`.
use Rattle.std.proofs.Common.{◌∙◌}
use Rattle.read_replies.specs.Cases.{keys-ask}
use Rattle.read_replies.proofs.keys_told.Goals as goal

pub returns : goal.returns
returns c =
    let asked = c.send_gets.ensures in
    λ keys values writes reads. keys-ask _ _ _ c.settle.ensures c.args.contents c.client_word-mask.ensures c.count_at-servers.ensures
    (asked.clients ∙ rw (c.put_client_word-2.ensures, c.put_client_word.ensures))
    asked.links
