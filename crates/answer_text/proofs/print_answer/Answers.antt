-- Three texts, one behind the other: a number of at most 20 digits, the answer, and byte 10.
use Rattle.std.proofs.Common.{[], ◌∷◌, ◌++◌, arith}
use Rattle.schedule.specs.Decimal.{decimal}
use Rattle.schedule.specs.DecimalLaws.{decimal_short}
use Rattle.printing.specs.Texts.{word_text}
use Rattle.printing.specs.PrintedLaws.{printed_then}
use Rattle.answer_text.proofs.print_answer.Goals as goal

pub print_decimal-behind-requires : goal.print_decimal-behind-requires
print_decimal-behind-requires c = omega (arith, c.requires, decimal_short c.args.number c.ranges.number.fits)

pub print_word-next-requires : goal.print_word-next-requires
print_word-next-requires c =
    let short = decimal_short c.args.number c.ranges.number.fits in
    omega (arith, c.requires, c.print_decimal-behind.ensures.end, c.print_decimal-behind.auto.out)

pub put_byte-requires : goal.put_byte-requires
put_byte-requires c =
    let short = decimal_short c.args.number c.ranges.number.fits in
    omega (arith, c.requires, c.print_decimal-behind.ensures.end, c.print_decimal-behind.auto.out, c.print_word-next.ensures.1)

pub returns : goal.returns
returns c =
    let a = c.args in
    let s = a.shown.now in
    let out = a.out.now in
    let text = word_text a.word s.mask s.setpoints.now s.tags.now s.badges.now in
    let short = decimal_short a.number c.ranges.number.fits in
    let both = printed_then out (decimal a.number) text a.at (omega arith) c.print_decimal-behind.ensures c.print_word-next.ensures.0 in (
      printed_then out (decimal a.number ++ text) (10 ∷ []) a.at (omega arith) both c.put_byte.ensures,
      omega (arith, c.print_decimal-behind.ensures.end, c.print_word-next.ensures.1, c.put_byte.ensures.end),
    )
