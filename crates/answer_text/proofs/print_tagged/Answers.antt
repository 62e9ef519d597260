-- A text behind a text.
use Rattle.std.proofs.Common.{arith}
use Rattle.printing.specs.Texts.{spaced}
use Rattle.printing.specs.PrintedLaws.{printed_then}
use Rattle.answer_text.proofs.print_tagged.Goals as goal

pub returns : goal.returns
returns c =
    let a = c.args in (
      printed_then a.out.now a.text.now (spaced a.tag) a.at (omega arith)
          c.print_bytes-next.ensures c.print_spaced.ensures.0,
      omega
          (arith, c.print_bytes-next.ensures.end, c.print_spaced.ensures.1),
    )
