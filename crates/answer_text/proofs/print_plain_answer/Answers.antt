-- Three texts, one behind the other: a number of at most 20 digits, the answer without servers, and byte 10.
use Rattle.std.proofs.Common.{[], ◌∷◌, ◌++◌, arith}
use Rattle.schedule.specs.Decimal.{decimal}
use Rattle.schedule.specs.DecimalLaws.{decimal_short}
use Rattle.printing.specs.Plain.{plain_text}
use Rattle.printing.specs.PlainLaws.{plain_short}
use Rattle.printing.specs.PrintedLaws.{printed_then}
use Rattle.answer_text.proofs.print_plain_answer.Goals as goal

pub print_decimal-behind-requires : goal.print_decimal-behind-requires
print_decimal-behind-requires c = omega (arith, c.requires, decimal_short c.args.number c.ranges.number.fits)

pub print_plain-next-requires : goal.print_plain-next-requires
print_plain-next-requires c =
    let short = decimal_short c.args.number c.ranges.number.fits in
    omega (arith, c.requires, c.print_decimal-behind.ensures.end, c.print_decimal-behind.auto.out)

pub put_byte-requires : goal.put_byte-requires
put_byte-requires c =
    let short = decimal_short c.args.number c.ranges.number.fits in
    let plain = c.print_plain-next in
    let few = plain_short c.args.word c.print_decimal-behind.result plain.result plain.ensures.1 in
    omega (
      arith,
      c.requires,
      c.print_decimal-behind.ensures.end,
      c.print_decimal-behind.auto.out,
      plain.auto.out,
    )

pub returns : goal.returns
returns c =
    let a = c.args in
    let out = a.out.now in
    let number = decimal a.number in
    let text = plain_text a.word in
    let short = decimal_short a.number c.ranges.number.fits in
    let plain = c.print_plain-next in
    let few = plain_short c.args.word c.print_decimal-behind.result plain.result plain.ensures.1 in
    let first = c.print_decimal-behind.ensures in
    let both = printed_then out number text a.at (omega (arith, c.requires)) first plain.ensures.0 in (
      printed_then out (number ++ text) (10 ∷ []) a.at (omega (arith, c.requires)) both c.put_byte.ensures,
      omega (arith, first.end, c.put_byte.ensures.end),
    )
