-- What is printed so far and what the lines from here on will print is what all lines print.
use Rattle.std.proofs.Common.{◌≡◌, ◌+◌, ◌-◌, length}
use Rattle.tables.specs.Lent.{tables_in, SameLent}
use Rattle.schedule.specs.Steps.{setpoints_most}
use Rattle.texts.specs.TextLaws.{Going}
use Rattle.text_lines.proofs.play_lines.Given as goal

abbrev pub invariant-loop-start : goal.invariant-loop-start
invariant-loop-start l = record {
  same : SameLent l.initial.press l.press;
  going : Going l.text (tables_in l.initial.press) l.initial.out l.start l.lines l.printed l.out (tables_in l.press);
  setpoints : setpoints_most ≡ length l.setpoints;
}

abbrev pub decreases-loop-start : goal.decreases-loop-start
decreases-loop-start l = length l.text + 1 - l.start
