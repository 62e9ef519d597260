-- `record_tests::has_tag` meets its contract: its tag is compared.
use Rattle.record_tests.proofs.has_tag.Goals as goal

pub returns : goal.returns
returns c = rw c.record_word.ensures
