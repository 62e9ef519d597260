-- An answer takes at most `answer_most` bytes. One that shows no servers is the same whatever stands in the rows.
use Rattle.std.proofs.Common.{ap, not}
use Rattle.printing.specs.PlainLaws.{answer_plain}
use Rattle.ranges.specs.Tests.{fails}
use Rattle.line_playing.proofs.print_shown.Goals as goal

pub returns-then-not-shows_servers : goal.returns-then-not-shows_servers
returns-then-not-shows_servers c =
    let a = c.args in
    let s = a.shown in
    let plain = fails c.shows_servers.ensures (ap not c.if-not-shows_servers.true) in
    let printed = c.print_plain_answer.ensures in (
      rw (← answer_plain a.number s.word s.mask s.setpoints s.tags s.badges plain) printed.0,
      printed.1,
    )
