-- `answers::which_keys` meets its contract: the number answered is that of the log's entries, as `on_which_keys` says.
use Rattle.answers.specs.Cases.{keys-told}
use Rattle.answers.proofs.which_keys.Goals as goal

pub returns : goal.returns
returns c = λ clients keys values log writes reads.
    keys-told _ _ _ c.answer.ensures c.count_at-entries.ensures
