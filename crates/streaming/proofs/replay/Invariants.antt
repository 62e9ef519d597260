-- The tables stay playable and the run goes on until nothing is left of the text.
use Rattle.std.proofs.Common.{◌≡◌, length}
use Rattle.tables.specs.Lent.{tables_in, SameLent}
use Rattle.schedule.specs.Steps.{setpoints_most}
use Rattle.playing.specs.Playable.{Playable}
use Rattle.window.specs.Window.{Going}
use Rattle.streaming.proofs.replay.Given as goal

abbrev pub invariant-loop-run : goal.invariant-loop-run
invariant-loop-run l = record {
  same : SameLent l.initial.press l.press;
  playable : Playable (tables_in l.press);
  going : Going l.run l.window l.out;
  setpoints : setpoints_most ≡ length l.setpoints;
}

abbrev pub decreases-loop-run : goal.decreases-loop-run
decreases-loop-run l = l.run.left
