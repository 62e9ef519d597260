-- At most four digits are printed at once; else the digits before the last four are, of which there are at most four, and then these.
use native.Mathlib.Omega.{arith}
use Rattle.printing.specs.DigitLaws.{long-length, printed_long}
use Rattle.number_text.proofs.print_middle.Goals as goal

pub print_short-next-requires : goal.print_short-next-requires
print_short-next-requires c =
    let l = long-length c.args.number c.ranges.number.fits c.if-number-lt10000.false in
    (omega (arith, c.requires.0), omega (arith, c.requires.1))

pub put_four-requires : goal.put_four-requires
put_four-requires c =
    let l = long-length c.args.number c.ranges.number.fits c.if-number-lt10000.false in
    (omega arith, omega (arith, c.requires.1, c.print_short-next.ensures.end, c.print_short-next.auto.out))

pub returns : goal.returns
returns c =
    let a = c.args in
    printed_long a.out.now a.at a.number (omega (arith, c.requires.1))
    c.ranges.number.fits c.if-number-lt10000.false
    c.print_short-next.ensures c.put_four.ensures
