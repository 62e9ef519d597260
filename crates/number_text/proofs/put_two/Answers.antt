-- Two digits, one behind the other.
use native.Mathlib.Omega.{arith}
use Rattle.printing.specs.DigitLaws.{printed-two}
use Rattle.number_text.proofs.put_two.Goals as goal

pub returns : goal.returns
returns c =
    let a = c.args in
    printed-two a.out.now a.at a.number (omega (arith, c.requires.1)) c.requires.0
    c.put_byte-next.ensures c.put_byte.ensures
