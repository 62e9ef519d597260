-- Where steps are still wanted the tables are sound, and each turn leaves fewer of them.
use Rattle.std.proofs.Common.{◌≡◌, ◌≤◌, ◌<◌, length}
use Rattle.tables.specs.Lent.{tables_in, SameLent}
use Rattle.soundness.specs.Facts.{Sound}
use Rattle.window.specs.Window.{print_size}
use Rattle.load_turns.proofs.print_load.Given as goal

abbrev pub invariant-loop-run : goal.invariant-loop-run
invariant-loop-run l = record {
  same : SameLent l.initial.press l.press;
  sound : 0 < l.run.left → Sound (tables_in l.press);
  used : l.run.used ≤ length l.out;
  size : print_size ≡ length l.out;
}

abbrev pub decreases-loop-run : goal.decreases-loop-run
decreases-loop-run l = l.run.left
