-- `choice_replies::all_told` meets its contract: waiting or ended, each a case law of `on_all`.
use Rattle.choice_replies.specs.Cases.{all-waits, all-ends}
use Rattle.choice_replies.proofs.all_told.Goals as goal

pub returns-then-is_waiting : goal.returns-then-is_waiting
returns-then-is_waiting c =
    λ writes. all-waits _ _ _ c.settle-step.ensures c.is_waiting.ensures c.args.contents
    c.put_client_word.ensures _ c.if-is_waiting.true c.plain.ensures c.requires.tags_value

pub returns : goal.returns
returns c =
    λ writes. all-ends _ _ _ c.settle-step.ensures c.is_waiting.ensures c.args.contents
    c.put_client_word.ensures c.if-is_waiting.false c.client_word-mask.ensures
    c.client_word-place.ensures c.count_at-servers.ensures c.finish_by_c-tag.ensures
