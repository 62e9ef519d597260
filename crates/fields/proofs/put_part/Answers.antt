-- The byte that holds the part is stored anew; a part of no bits leaves the bytes as they are.
use mathlib.Core.Path.{sym, ap, ◌∙◌}
use Prim.Native.Nat.{ℕ}
use lib.ListN.{set}
use Rattle.fields.specs.Parts.{put_part}
use Rattle.fields.specs.PartLaws.{put-nothing}
use Rattle.fields.proofs.put_part.Goals as goal

pub returns-then-width-eq0 : goal.returns-then-width-eq0
returns-then-width-eq0 c =
    let a = c.args in
    sym
    (ap (λ (w : ℕ). put_part a.bytes.now a.place w a.behind a.value) c.if-width-eq0.true
    ∙ put-nothing a.bytes.now a.place a.behind a.value)

pub returns : goal.returns
unfolding put_part
returns c = let a = c.args in ap (set a.bytes.now a.place) c.with_part.ensures
