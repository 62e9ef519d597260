-- `step_parts::words::keep_words` meets its contract: the loop has kept the words of the masked servers it has passed.
use Rattle.std.proofs.Common.{ℕ, ◌≡◌, List, get_or}
use Rattle.ranges.specs.Turns.{turns}
use Rattle.ranges.specs.Picked.{picked}
use Rattle.keys.specs.Masks.{has_server}
use Rattle.rules.specs.Words.{keep_word}
use Rattle.step_parts.proofs.words.keep_words.Given as goal

-- a turn of the loop
abbrev pub turn : ℕ → ℕ → List ℕ → ℕ → ℕ → List ℕ → List ℕ
turn field mask words client = picked (has_server mask) (keep_word field (λ i. get_or words i 0) client)

abbrev pub invariant-loop-server : goal.invariant-loop-server
invariant-loop-server l = l.clients ≡ turns (turn l.field l.mask l.words l.client) l.server l.initial.clients
