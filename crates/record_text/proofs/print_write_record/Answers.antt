-- Four texts, one behind the other: a letter with four numbers, the end, the badge, and byte 10.
use mathlib.Core.List.{[], ◌∷◌, ◌++◌}
use native.Mathlib.Omega.{arith}
use Rattle.schedule.specs.Decimal.{spaced_all}
use Rattle.printing.specs.Texts.{spaced, end_text}
use Rattle.printing.specs.PrintedLaws.{printed_then}
use Rattle.record_text.proofs.print_write_record.Goals as goal

pub returns : goal.returns
returns c =
    let a = c.args in
    let out = a.out.now in
    let row = (87 ∷ []) ++ spaced_all (a.tag ∷ a.client ∷ a.count ∷ a.begin ∷ []) in
    let end = end_text a.end in
    let badge = spaced a.badge in
    let first = c.print_lettered-behind.ensures in
    let second = c.print_end_step-next.ensures in
    let third = c.print_spaced-last.ensures in
    let both = printed_then out row end a.at (omega arith) first.0 second.0 in
    let all = printed_then out (row ++ end) badge a.at (omega arith) both third.0 in (
      printed_then out ((row ++ end) ++ badge) (10 ∷ []) a.at (omega arith) all c.put_byte.ensures,
      omega (arith, first.1, second.1, third.1, c.put_byte.ensures.end),
    )
