-- `step_parts::words::show_words` meets its contract: the loop has laid what is shown of the servers that it has passed.
use Prim.Native.Nat.{ℕ, ◌+◌}
use mathlib.Core.Bool.{cond}
use mathlib.Core.List.{List}
use Rattle.ranges.specs.LaidLaws.{Laying}
use Rattle.keys.specs.Masks.{has_server}
use Rattle.tables.specs.Layout.{client_word}
use Rattle.step_parts.proofs.words.show_words.Given as goal

-- the word shown of a server
abbrev pub shown : List ℕ → ℕ → ℕ → ℕ → ℕ → ℕ
shown clients client field mask i = cond (has_server mask i) (client_word clients client (field + i)) 0

abbrev pub invariant-loop-server : goal.invariant-loop-server
invariant-loop-server l = Laying (shown l.clients l.client l.field l.mask) 16 l.initial.row l.server l.row
