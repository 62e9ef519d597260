-- `record_tests::overlap` meets its contract: `found` counts the WRITEs passed that overlap.
use Rattle.std.specs.Prelude.{ℕ, Bool}
use Rattle.std.proofs.Common.{sym, ◌∙◌, arith, rules, ◌≡◌}
use Rattle.ranges.specs.SumLaws.{count-zero, count-here, count_past, count_most}
use Rattle.record_tests.specs.Records.{overlaps}
use Rattle.record_tests.proofs.overlap.Goals.{then-overlaps, else-overlaps}
use Rattle.record_tests.proofs.overlap.Goals as goal

pub loop-place-init : goal.loop-place-init
loop-place-init c = (search rules, sym (count-zero (overlaps c.args.writes.now c.args.begin c.args.end)))

pub overflow_add-found : goal.overflow_add-found
overflow_add-found c =
    omega (arith, c.loop-place.invariant.1, c.requires.0, count_most (overlaps c.args.writes.now c.args.begin c.args.end) c.loop-place.place)

pub loop-place-preserved : goal.loop-place-preserved
loop-place-preserved c =
    let passes : ℕ → Bool = overlaps c.args.writes.now c.args.begin c.args.end in
    let e = c.loop-place.invariant.1 in
    let i = c.loop-place.place in (
      search rules,
      elim c.if-overlaps.branch [
        | then-overlaps w ↦ w.found-is ∙ rw (e, count-here passes i (sym c.overlaps.ensures ∙ w.if-overlaps.true))
        | else-overlaps w ↦ w.found-is ∙ e ∙ sym (count_past passes i (sym c.overlaps.ensures ∙ w.if-overlaps.false))
      ],
    )

pub returns : goal.returns
returns c = let e : c.loop-place.place ≡ c.args.begun = omega arith in c.loop-place.invariant.1 ∙ rw e
