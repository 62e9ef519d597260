-- The answer without servers, and behind it the servers where it shows some.
use Rattle.std.proofs.Common.{sym, ◌∙◌, arith}
use Rattle.printing.specs.Texts.{servers_below}
use Rattle.printing.specs.Plain.{plain_text}
use Rattle.printing.specs.PlainLaws.{word-shown, shown_short}
use Rattle.printing.specs.PrintedLaws.{printed_then}
use Rattle.answer_text.proofs.print_word.Goals as goal

pub returns-then-shows_servers : goal.returns-then-shows_servers
returns-then-shows_servers c =
    let shows = sym c.shows_servers.ensures ∙ c.if-shows_servers.true in
    let a = c.args in
    let s = a.shown.now in
    let plain = c.print_plain-next in
    let few = shown_short a.word a.at plain.result plain.ensures.1 shows in
    let all = servers_below s.mask s.setpoints.now s.tags.now s.badges.now 16 in (
      rw (← word-shown a.word s.mask s.setpoints.now s.tags.now s.badges.now shows)
          (printed_then a.out.now (plain_text a.word) all a.at (omega (arith, c.requires)) plain.ensures.0 c.print_servers.ensures.0),
      omega (arith, c.print_servers.ensures.1),
    )
