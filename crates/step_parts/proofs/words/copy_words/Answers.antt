-- `step_parts::words::copy_words` meets its contract: the loop has laid the words that it has passed.
use Rattle.std.proofs.Common.{rules}
use Rattle.ranges.specs.LaidLaws.{laying-none, laying-more}
use Rattle.step_parts.proofs.words.copy_words.Goals as goal

pub loop-server-init : goal.loop-server-init
loop-server-init c = laying-none _ _ _ (search rules)

pub loop-server-preserved : goal.loop-server-preserved
loop-server-preserved c = laying-more c.loop-server.invariant (search rules) c.client_word.ensures
