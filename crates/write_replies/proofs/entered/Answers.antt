-- `write_replies::entered` meets its contract: the words put and the record ended are those of `on_entered`.
use Rattle.std.proofs.Common.{refl}
use Rattle.write_replies.specs.Cases.{write-ends}
use Rattle.write_replies.proofs.entered.Goals as goal

pub returns : goal.returns
returns c =
    λ keys values log reads. write-ends _ _ _ c.settle-step.ensures c.args.contents refl c.client_word-place.ensures
    (rw (c.put_client_word-2.ensures, c.put_client_word.ensures))
    c.put_record_word.ensures
