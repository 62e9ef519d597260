-- `load_run::play_load` meets its contract: numbers 2 and 12, or the picks on tables that were found sound.
use Rattle.std.proofs.Common.{ap, sym, ◌∙◌, not}
use borrow.Author.Tests.{not-false}
use Rattle.tables.specs.Lent.{tables_in}
use Rattle.soundness.specs.Sound.{sound}
use Rattle.soundness.specs.Facts.{sound_facts}
use Rattle.workload_run.specs.Run.{ended}
use Rattle.workload_run.specs.RunLaws.{load_unsound, load_short, load-played}
use Rattle.load_run.proofs.play_load.Goals as goal

pub returns-then-not-sound-clause-played : goal.returns-then-not-sound-clause-played
returns-then-not-sound-clause-played c =
    let a = c.args in
    load_unsound a.seed a.wanted a.list.now (tables_in a.press.now) (c.sound.ensures ∙ ap sound c.lent.ensures) (ap not c.if-not-sound.true)

pub returns-then-list-wanted-clause-played : goal.returns-then-list-wanted-clause-played
returns-then-list-wanted-clause-played c =
    let a = c.args in
    load_short a.seed a.wanted a.list.now (tables_in a.press.now) (c.sound.ensures ∙ ap sound c.lent.ensures) (ap not c.if-not-sound.false)
    c.if-list-wanted.true

pub play_picks-requires-clause-sound : goal.play_picks-requires-clause-sound
play_picks-requires-clause-sound c =
    sound_facts (tables_in c.args.press.now)
    (sym (c.sound.ensures ∙ ap sound c.lent.ensures) ∙ not-false _ (ap not c.if-not-sound.false))

pub returns-clause-played : goal.returns-clause-played
returns-clause-played c =
    let a = c.args in
    load-played a.seed a.wanted a.list.now (tables_in a.press.now) (c.sound.ensures ∙ ap sound c.lent.ensures) (ap not c.if-not-sound.false)
    c.if-list-wanted.false (ap ended c.play_picks.ensures.played)
