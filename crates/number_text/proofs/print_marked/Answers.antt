-- A byte and the digits behind it; a number of 32 bits has at most ten.
use mathlib.Core.List.{[], ◌∷◌}
use native.Mathlib.Omega.{arith}
use Rattle.schedule.specs.Decimal.{decimal}
use Rattle.schedule.specs.DecimalLaws.{word_short}
use Rattle.printing.specs.PrintedLaws.{printed_then}
use Rattle.number_text.proofs.print_marked.Goals as goal

pub print_decimal-requires : goal.print_decimal-requires
print_decimal-requires c =
    let s = word_short c.args.number
    c.ranges.number.fits in
    omega (arith, c.put_byte-next.ensures.end, c.put_byte-next.auto.out)

pub returns : goal.returns
returns c =
    let a = c.args in
    let s = word_short a.number c.ranges.number.fits in (
      printed_then a.out.now (a.byte ∷ []) (decimal a.number) a.at (omega arith)
          c.put_byte-next.ensures c.print_decimal.ensures,
      omega
          (arith, c.put_byte-next.ensures.end, c.print_decimal.ensures.end),
    )
