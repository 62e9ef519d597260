-- Judged ahead, then played: the register stands behind the answers.
use Rattle.std.proofs.Common.{ap, not, sym, ◌∙◌, arith, ◌≡◌}
use borrow.Author.Tests.{not-false}
use Rattle.tables.specs.Lent.{tables_lent, tables_in}
use Rattle.texts.specs.Text.{playable}
use Rattle.texts.specs.TextLaws.{playable_facts, room_there, text_unsound, text_short, text-played}
use Rattle.text_run.proofs.play_text.Goals as goal

pub returns-then-not-may_play-clause-played : goal.returns-then-not-may_play-clause-played
returns-then-not-may_play-clause-played c =
    let a = c.args in
    text_unsound a.text.now a.out.now (tables_in a.press.now) (c.may_play.ensures ∙ ap playable c.lent.ensures) (ap not c.if-not-may_play.true)

pub returns-then-not-has_room-clause-played : goal.returns-then-not-has_room-clause-played
returns-then-not-has_room-clause-played c =
    let a = c.args in
    text_short a.text.now a.out.now (tables_in a.press.now) (c.may_play.ensures ∙ ap playable c.lent.ensures) c.count_lines-lines.ensures
    c.has_room.ensures (ap not c.if-not-may_play.false) (ap not c.if-not-has_room.true)

pub play_lines-next-requires : goal.play_lines-next-requires
play_lines-next-requires c =
    let a = c.args in record {
      playable = playable_facts (tables_in a.press.now) (sym (c.may_play.ensures ∙ ap playable c.lent.ensures) ∙ not-false _ (ap not c.if-not-may_play.false));
      text_in_bounds = room_there c.count_lines-lines.ensures c.has_room.ensures (ap not c.if-not-has_room.false);
    }

pub returns-clause-played : goal.returns-clause-played
returns-clause-played c =
    let a = c.args in
    text-played a.text.now a.out.now (tables_in a.press.now) (c.may_play.ensures ∙ ap playable c.lent.ensures) c.count_lines-lines.ensures
    c.has_room.ensures (ap not c.if-not-may_play.false) (ap not c.if-not-has_room.false) c.play_lines-next.ensures.lines_played
    (rw c.lent-2.ensures at c.print_end.ensures.0)
