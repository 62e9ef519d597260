-- Three texts, one behind the other; two rows of numbers, one behind the other, are the text of both together.
use mathlib.Core.List.{[], ◌∷◌, ◌++◌}
use native.Mathlib.Omega.{arith}
use Rattle.schedule.specs.Decimal.{spaced_all}
use Rattle.schedule.specs.DecimalLaws.{spaced-append}
use Rattle.printing.specs.PrintedLaws.{printed_then}
use Rattle.step_text.proofs.print_longer_row.Goals as goal

pub returns : goal.returns
returns c =
    let a = c.args in
    let out = a.out.now in
    let row = (a.byte ∷ []) ++ spaced_all a.numbers.now in
    let more = spaced_all a.more.now in
    let first = c.print_lettered-behind.ensures in
    let second = c.print_numbers-next.ensures in
    let both = printed_then out row more a.at (omega arith) first.0 second.0 in (
      rw (spaced-append a.numbers.now a.more.now)
          (printed_then out (row ++ more) (10 ∷ []) a.at (omega arith) both c.put_byte.ensures),
      omega (arith, first.1, second.1, c.put_byte.ensures.end),
    )
