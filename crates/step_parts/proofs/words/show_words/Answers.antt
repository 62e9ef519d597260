-- `step_parts::words::show_words` meets its contract: the loop has laid what is shown of the servers that it has passed.
use Prim.Native.Nat.{ℕ, ◌+◌}
use mathlib.Core.Path.{◌∙◌}
use Rattle.ranges.specs.LaidLaws.{laying-none, laying-more, laying-all, laid_at}
use Rattle.tables.specs.Layout.{client_word}
use Rattle.rules.specs.WordsLaws.{shown-laid}
use borrow.Author.Rules.{rules}
use Rattle.step_parts.proofs.words.show_words.Goals as goal

pub loop-server-init : goal.loop-server-init
loop-server-init c = laying-none _ _ _ (search rules)

pub loop-server-preserved : goal.loop-server-preserved
loop-server-preserved c =
    let a = c.args in
    let f : ℕ → ℕ = λ i. client_word a.clients.now a.client (a.field + i) in
    laying-more c.loop-server.invariant (search rules)
    (c.masked_word.ensures ∙ rw (c.copy_words.ensures, laid_at f 16 _ c.loop-server.server (search rules)))

pub returns : goal.returns
returns c =
    let a = c.args in
    shown-laid a.field a.clients.now a.client a.mask a.row.now c.requires.field_bound.1
    (laying-all c.loop-server.invariant c.loop-server-test.false)
