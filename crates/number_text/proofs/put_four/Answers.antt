-- Twice two digits, one pair behind the other.
use Prim.Native.Nat.{◌/◌}
use native.Mathlib.Omega.{arith}
use Rattle.printing.specs.DigitLaws.{two_long, printed_four}
use Rattle.number_text.proofs.put_four.Goals as goal

pub put_two-requires : goal.put_two-requires
put_two-requires c =
    let l = two_long (c.args.number / 100) in
    (omega arith, omega (arith, c.requires.1, c.put_two-next.ensures.end, c.put_two-next.auto.out))

pub returns : goal.returns
returns c =
    let a = c.args in
    printed_four a.out.now a.at a.number (omega (arith, c.requires.1))
    c.put_two-next.ensures c.put_two.ensures
