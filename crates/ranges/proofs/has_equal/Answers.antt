-- `ranges::has_equal` meets its contract: what the loop has found so far is whether one of the words before `at` is equal.
use mathlib.Core.Path.{◌≡◌, sym, ◌∙◌}
use native.Mathlib.Omega.{arith}
use borrow.Author.Tests.{eq-eqb, ne_eqb}
use Rattle.ranges.specs.AllLaws.{any_none, any_past, any_at}
use Rattle.ranges.specs.Words.{equal_from}
use Rattle.ranges.proofs.has_equal.Goals.{then-words-place, else-words-place}
use Rattle.ranges.proofs.has_equal.Goals as goal

pub loop-at-init : goal.loop-at-init
loop-at-init c = let a = c.args in (omega arith, sym (any_none (equal_from a.words.now a.place a.word)))

pub loop-at-preserved : goal.loop-at-preserved
loop-at-preserved c =
    let a = c.args in
    let p = equal_from a.words.now a.place a.word in
    let at = c.loop-at.at in (
      omega (arith, c.loop-at-test.true),
      elim c.if-words-place.branch [ then-words-place w ↦ w.found-is ∙ sym (any_at p _ at (omega arith) (eq-eqb _ _ w.if-words-place.true)) | else-words-place w ↦ w.found-is ∙ c.loop-at.invariant.1 ∙ sym (any_past p at (ne_eqb _ _ w.if-words-place.false)) ],
    )

pub returns : goal.returns
returns c =
    let all : c.loop-at.at ≡ c.args.many = omega (arith, c.loop-at.invariant.0, c.loop-at-test.false) in
    rw all at c.loop-at.invariant.1
