-- `step_parts::words::keep_words` meets its contract: the loop has kept the words of the masked servers it has passed.
use Rattle.ranges.specs.Turns.{turns-none, turns_more}
use Rattle.step_parts.proofs.words.keep_words.Invariants.{turn}
use Rattle.step_parts.proofs.words.keep_words.Goals as goal

pub loop-server-init : goal.loop-server-init
loop-server-init c = let a = c.args in turns-none (turn a.field a.mask a.words.now a.client) _

pub loop-server-preserved : goal.loop-server-preserved
loop-server-preserved c =
    let a = c.args in
    turns_more (turn a.field a.mask a.words.now a.client) c.loop-server.server _ c.loop-server.invariant c.keep_word.ensures
