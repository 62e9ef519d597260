-- `read_replies::got` meets its contract: waiting or ended, each a case law of `on_got`.
use Rattle.std.proofs.Common.{◌∙◌}
use Rattle.read_replies.specs.Cases.{got-waits, got-ends}
use Rattle.read_replies.proofs.got.Goals as goal

pub returns-then-is_waiting : goal.returns-then-is_waiting
returns-then-is_waiting c =
    λ keys values log writes. got-waits _ _ _ c.settle-step.ensures c.is_waiting.ensures c.args.contents
    (c.put_client_word-2.ensures ∙ rw c.put_client_word.ensures) c.if-is_waiting.true

pub returns : goal.returns
returns c =
    λ keys values log writes. got-ends _ _ _ c.settle-step.ensures c.is_waiting.ensures c.args.contents
    (c.put_client_word-2.ensures ∙ rw c.put_client_word.ensures) c.if-is_waiting.false
    c.client_word-place.ensures c.client_word-tag.ensures
    c.finish.ensures.clients c.finish.ensures.reads
