-- `record_tests::count_tagged` meets its contract: `found` counts the WRITEs passed that have a tag.
use Rattle.std.specs.Prelude.{ℕ, Bool}
use Rattle.std.proofs.Common.{sym, ◌∙◌, arith, rules, ◌≡◌, ap, not}
use Rattle.ranges.specs.SumLaws.{count-zero, count-here, count_past, count_most}
use Rattle.record_tests.specs.Records.{has_tag}
use Rattle.record_tests.proofs.count_tagged.Goals.{then-not-has_tag, else-not-has_tag}
use Rattle.record_tests.proofs.count_tagged.Goals as goal

pub loop-place-init : goal.loop-place-init
loop-place-init c = (search rules, sym (count-zero (λ k. not (has_tag c.args.writes.now 0 k))))

pub overflow_add-found : goal.overflow_add-found
overflow_add-found c =
    omega (arith, c.loop-place.invariant.1, c.requires.0, count_most (λ k. not (has_tag c.args.writes.now 0 k)) c.loop-place.place)

pub loop-place-preserved : goal.loop-place-preserved
loop-place-preserved c =
    let passes : ℕ → Bool = λ k. not (has_tag c.args.writes.now 0 k) in
    let e = c.loop-place.invariant.1 in
    let i = c.loop-place.place in (
      search rules,
      elim c.if-not-has_tag.branch [
        | then-not-has_tag w ↦ w.found-is ∙ rw (e, count-here passes i (ap not (sym c.has_tag.ensures) ∙ ap not w.if-not-has_tag.true))
        | else-not-has_tag w ↦ w.found-is ∙ e ∙ sym (count_past passes i (ap not (sym c.has_tag.ensures) ∙ ap not w.if-not-has_tag.false))
      ],
    )

pub returns : goal.returns
returns c = let e : c.loop-place.place ≡ c.args.begun = omega arith in c.loop-place.invariant.1 ∙ rw e
