-- Four texts, one behind the other: at most 3, 11, 11 and 11 bytes.
use Rattle.std.proofs.Common.{◌++◌, arith}
use Rattle.schedule.specs.DecimalLaws.{two_short}
use Rattle.printing.specs.Texts.{marked, spaced}
use Rattle.printing.specs.PrintedLaws.{printed_then}
use Rattle.server_text.proofs.print_server.Goals as goal

pub print_marked-requires : goal.print_marked-requires
print_marked-requires c =
    let two = two_short c.args.server (omega arith) in
    omega (
      arith,
      c.print_spaced-behind.ensures.0.end,
      c.print_spaced-behind.auto.out,
      c.print_marked-next.ensures.1,
      c.print_marked-next.auto.out,
      c.print_marked-last.ensures.1,
      c.print_marked-last.auto.out,
    )

pub returns : goal.returns
returns c =
    let a = c.args in
    let out = a.out.now in
    let one = spaced a.server in
    let two = marked 61 a.setpoint in
    let three = marked 64 a.tag in
    let short = two_short a.server (omega arith) in
    let first = c.print_spaced-behind.ensures.0 in
    let both = printed_then out one two a.at (omega arith) first c.print_marked-next.ensures.0 in
    let all = printed_then out (one ++ two) three a.at (omega arith) both c.print_marked-last.ensures.0 in (
      printed_then out ((one ++ two) ++ three) (marked 35 a.badge) a.at (omega arith) all c.print_marked.ensures.0,
      omega (
        arith,
        first.end,
        c.print_marked-next.ensures.1,
        c.print_marked-last.ensures.1,
        c.print_marked.ensures.1,
      ),
    )
