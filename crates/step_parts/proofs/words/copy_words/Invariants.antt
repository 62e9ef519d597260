-- `step_parts::words::copy_words` meets its contract: the loop has laid the words that it has passed.
use Prim.Native.Nat.{◌+◌}
use Rattle.ranges.specs.LaidLaws.{Laying}
use Rattle.tables.specs.Layout.{client_word}
use Rattle.step_parts.proofs.words.copy_words.Given as goal

abbrev pub invariant-loop-server : goal.invariant-loop-server
invariant-loop-server l = Laying (λ i. client_word l.clients l.client (l.field + i)) 16 l.initial.words l.server l.words
