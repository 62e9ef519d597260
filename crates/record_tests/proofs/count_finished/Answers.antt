-- `record_tests::count_finished` meets its contract: `found` counts the READs passed that are finished.
use Rattle.std.specs.Prelude.{ℕ, Bool}
use Rattle.std.proofs.Common.{sym, ◌∙◌, arith, rules, ◌≡◌}
use Rattle.ranges.specs.SumLaws.{count-zero, count-here, count_past, count_most}
use Rattle.record_tests.specs.Records.{is_finished}
use Rattle.record_tests.proofs.count_finished.Goals.{then-is_finished, else-is_finished}
use Rattle.record_tests.proofs.count_finished.Goals as goal

pub loop-place-init : goal.loop-place-init
loop-place-init c = (search rules, sym (count-zero (is_finished c.args.reads.now)))

pub overflow_add-found : goal.overflow_add-found
overflow_add-found c =
    omega (arith, c.loop-place.invariant.1, c.requires.0, count_most (is_finished c.args.reads.now) c.loop-place.place)

pub loop-place-preserved : goal.loop-place-preserved
loop-place-preserved c =
    let passes : ℕ → Bool = is_finished c.args.reads.now in
    let e = c.loop-place.invariant.1 in
    let i = c.loop-place.place in (
      search rules,
      elim c.if-is_finished.branch [
        | then-is_finished w ↦ w.found-is ∙ rw (e, count-here passes i (sym c.is_finished.ensures ∙ w.if-is_finished.true))
        | else-is_finished w ↦ w.found-is ∙ e ∙ sym (count_past passes i (sym c.is_finished.ensures ∙ w.if-is_finished.false))
      ],
    )

pub returns : goal.returns
returns c = let e : c.loop-place.place ≡ c.args.begun = omega arith in c.loop-place.invariant.1 ∙ rw e
