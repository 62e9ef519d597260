-- A text behind a text.
use Rattle.std.proofs.Common.{[], ◌∷◌, ◌++◌, arith}
use Rattle.printing.specs.Texts.{spaced}
use Rattle.printing.specs.PrintedLaws.{printed_then}
use Rattle.answer_text.proofs.print_refusal.Goals as goal

pub returns : goal.returns
returns c =
    let a = c.args in (
      printed_then a.out.now ((110 ∷ 111 ∷ []) ++ spaced a.number) (10 ∷ []) a.at (omega arith)
          c.print_tagged-next.ensures.0 c.put_byte.ensures,
      omega (arith, c.print_tagged-next.ensures.1, c.put_byte.ensures.end),
    )
