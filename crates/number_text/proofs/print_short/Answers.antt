-- One, two, three and four digits, each by a law of its own.
use native.Mathlib.Omega.{arith}
use Rattle.printing.specs.TextLaws.{one-length, printed-one}
use Rattle.printing.specs.DigitLaws.{decimal-two, decimal_four, two-length, three-length, four-length, printed-three}
use Rattle.number_text.proofs.print_short.Goals as goal

pub put_byte-requires : goal.put_byte-requires
put_byte-requires c =
    let l = one-length c.args.number c.if-number-lt10.true in
    omega (arith, c.requires.1)

pub returns-then-number-lt10 : goal.returns-then-number-lt10
returns-then-number-lt10 c = printed-one c.args.number c.if-number-lt10.true c.put_byte.ensures

pub put_two-requires : goal.put_two-requires
put_two-requires c =
    let l = two-length c.args.number c.if-number-lt10.false c.if-number-lt100.true in
    (omega (arith, c.if-number-lt100.true), omega (arith, c.requires.1))

pub returns-then-number-lt100 : goal.returns-then-number-lt100
returns-then-number-lt100 c =
    rw (decimal-two c.args.number c.if-number-lt10.false c.if-number-lt100.true)
    c.put_two.ensures

pub put_byte-next-requires : goal.put_byte-next-requires
put_byte-next-requires c =
    let l = three-length c.args.number c.if-number-lt100.false c.if-number-lt1000.true in
    omega (arith, c.requires.1)

pub put_two-requires-then-number-lt1000 : goal.put_two-requires-then-number-lt1000
put_two-requires-then-number-lt1000 c =
    let l = three-length c.args.number c.if-number-lt100.false c.if-number-lt1000.true in
    (omega arith, omega (arith, c.requires.1, c.put_byte-next.ensures.end, c.put_byte-next.auto.out))

pub returns-then-number-lt1000 : goal.returns-then-number-lt1000
returns-then-number-lt1000 c =
    let a = c.args in
    let least = c.if-number-lt100.false in
    let most = c.if-number-lt1000.true in
    let l = three-length a.number least most in
    printed-three a.out.now a.at a.number (omega (arith, c.requires.1)) least most
    c.put_byte-next.ensures c.put_two-then-number-lt1000.ensures

pub put_four-requires : goal.put_four-requires
put_four-requires c =
    let l = four-length c.args.number c.if-number-lt1000.false c.requires.0 in
    (c.requires.0, omega (arith, c.requires.1))

pub returns : goal.returns
returns c = rw (decimal_four c.args.number c.if-number-lt1000.false c.requires.0) c.put_four.ensures
