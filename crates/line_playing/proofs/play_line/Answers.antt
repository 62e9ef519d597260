-- What is printed is what the line shows.
use Rattle.tables.specs.Lent.{tables_in}
use Rattle.playing.specs.PlayedLaws.{line_printed}
use Rattle.line_playing.proofs.play_line.Goals as goal

pub returns-clause-line_played : goal.returns-clause-line_played
returns-clause-line_played c =
    let a = c.args in
    line_printed a.number a.line.now (tables_in a.press.now) a.out.now a.at _ _ c.play_named-shown.ensures.reads_after c.print_shown.ensures
