-- `load_pick::next_step` meets its contract: number 2, or the step picked on tables that were found sound.
use Rattle.std.proofs.Common.{ap, sym, ◌∙◌, not}
use borrow.Author.Tests.{not-false}
use Rattle.tables.specs.Lent.{tables_lent}
use Rattle.soundness.specs.Facts.{sound_facts}
use Rattle.workload.specs.ReadyLaws.{unsound-next}
use Rattle.load_pick.proofs.next_step.Goals as goal

pub returns-then-not-sound : goal.returns-then-not-sound
returns-then-not-sound c = unsound-next (tables_lent c.args.t.now) c.args.seed c.sound.ensures (ap not c.if-not-sound.true)

pub next_step_sound-requires : goal.next_step_sound-requires
next_step_sound-requires c = sound_facts (tables_lent c.args.t.now) (sym c.sound.ensures ∙ not-false _ (ap not c.if-not-sound.false))
