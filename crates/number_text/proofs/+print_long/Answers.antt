-- The number falls by each call. At most four digits are printed at once; else the digits before the last four are, and then these.
use native.Mathlib.Omega.{arith}
use Rattle.printing.specs.DigitLaws.{long-length, printed_long}
use Rattle.number_text.proofs.+print_long.Goals as goal

pub print_long-next-requires : goal.print_long-next-requires
print_long-next-requires t c =
    let l = long-length c.args.number c.ranges.number.fits c.if-number-lt10000.false in
    (omega arith, omega arith)

pub put_four-requires : goal.put_four-requires
put_four-requires t c =
    let l = long-length c.args.number c.ranges.number.fits c.if-number-lt10000.false in
    (omega arith, omega (arith, c.requires, c.print_long-next.ensures.end, c.print_long-next.auto.out))

pub returns : goal.returns
returns t c =
    let a = c.args in
    printed_long a.out.now a.at a.number (omega (arith, c.requires))
    c.ranges.number.fits c.if-number-lt10000.false
    c.print_long-next.ensures c.put_four.ensures
