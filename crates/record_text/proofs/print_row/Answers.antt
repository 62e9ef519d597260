-- A text behind a text.
use mathlib.Core.List.{[], ◌∷◌, ◌++◌}
use native.Mathlib.Omega.{arith}
use Rattle.schedule.specs.Decimal.{spaced_all}
use Rattle.printing.specs.PrintedLaws.{printed_then}
use Rattle.record_text.proofs.print_row.Goals as goal

pub returns : goal.returns
returns c =
    let a = c.args in (
      printed_then a.out.now ((a.byte ∷ []) ++ spaced_all a.numbers.now) (10 ∷ []) a.at (omega arith)
          c.print_lettered-next.ensures.0 c.put_byte.ensures,
      omega (arith, c.print_lettered-next.ensures.1, c.put_byte.ensures.end),
    )
