-- A pick, and its line where room was made.
use Rattle.std.proofs.Common.{arith, length, ap, ◌∙◌}
use Rattle.tables.specs.Lent.{tables_in}
use Rattle.tables.specs.Tables.{servers_of}
use Rattle.window.specs.WindowLaws.{room_free}
use Rattle.load_text.specs.TurnLaws.{gave-picked}
use Rattle.load_turns.proofs.give_step.Goals as goal

pub print_next-requires-clause-answer_most_in_bounds : goal.print_next-requires-clause-answer_most_in_bounds
print_next-requires-clause-answer_most_in_bounds c =
    let room = room_free c.args.run.used (length c.args.out.now) c.requires.left_nonzero.1.1 in
    omega (arith, c.in_ok-at.ensures.went_on, room)

pub returns-clause-gave : goal.returns-clause-gave
returns-clause-gave c =
    let a = c.args in
    rw (← c.in_ok-at.ensures.went_on)
    (gave-picked a.run.left a.run.seed (tables_in a.press.now) c.take_step-next.ensures.took
    (c.count_at-servers.ensures ∙ ap servers_of c.lent.ensures) c.print_next.ensures)
