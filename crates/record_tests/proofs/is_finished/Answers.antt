-- `record_tests::is_finished` meets its contract: its end is compared with 0.
use Rattle.record_tests.proofs.is_finished.Goals as goal

pub returns : goal.returns
returns c = rw c.record_word.ensures
