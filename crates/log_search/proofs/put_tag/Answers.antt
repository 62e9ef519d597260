-- `log_search::put_tag` meets its contract: the loop has put the tag for the servers of the mask that it has passed.
use Prim.Native.Nat.{ℕ}
use mathlib.Core.Path.{◌≡◌, sym, ◌∙◌}
use mathlib.Core.List.{List}
use native.Mathlib.Omega.{arith}
use borrow.Author.Rules.{rules}
use Rattle.ranges.specs.Turns.{turns-none, turns_more}
use Rattle.ranges.specs.Picked.{picked}
use Rattle.ranges.specs.PickedLaws.{lay_word}
use Rattle.keys.specs.Masks.{has_server}
use Rattle.log_search.proofs.put_tag.Goals.{then-has_server, else-has_server}
use Rattle.log_search.proofs.put_tag.Goals as goal

-- a turn of the loop
abbrev put : ℕ → ℕ → ℕ → List ℕ → List ℕ
put mask tag = picked (has_server mask) (lay_word (λ i. tag))

pub loop-server-init : goal.loop-server-init
loop-server-init c = let a = c.args in (search rules, turns-none (put a.mask a.tag) _)

pub loop-server-preserved : goal.loop-server-preserved
loop-server-preserved c =
    let a = c.args in
    let b = c.has_server.ensures in
    let more = turns_more (put a.mask a.tag) c.loop-server.server _ c.loop-server.invariant.1 in
    elim c.if-has_server.branch [ then-has_server w ↦ (search rules, more (rw (sym b ∙ w.if-has_server.true) w.tags-is)) | else-has_server w ↦ (search rules, more (rw (sym b ∙ w.if-has_server.false) w.tags-is)) ]

pub returns : goal.returns
returns c =
    let e : c.loop-server.server ≡ c.args.servers = omega arith in
    rw (← e) c.loop-server.invariant.1
