-- The loop's invariant: the numbers passed are printed, each in at most eleven bytes.
use Rattle.std.proofs.Common.{◌∙◌, refl, arith}
use Rattle.printing.specs.TextLaws.{printed-nothing, printed-number}
use Rattle.record_text.proofs.print_numbers.Goals as goal

pub loop-number-init : goal.loop-number-init
loop-number-init c = (printed-nothing c.args.out.now c.args.at (omega arith), (omega arith, refl))

pub loop-number-preserved : goal.loop-number-preserved
loop-number-preserved c =
    let p = c.loop-number in
    let a = c.args in (
      printed-number a.out.now a.at (omega arith) a.numbers.now p.number-index (omega arith)
          p.invariant.0 c.print_spaced-next.ensures.0,
      (omega (arith, c.print_spaced-next.ensures.1, p.invariant.1.0), c.print_spaced-next.auto.out ∙ p.invariant.1.1),
    )
