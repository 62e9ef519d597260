-- `load_run::play_picks` meets its contract: the load is on its way from where it began (`Going`).
use Rattle.tables.specs.Lent.{tables_in, SameLent}
use Rattle.workload_run.specs.Run.{running, begun}
use Rattle.workload_run.specs.RunLaws.{Going}
use Rattle.load_run.proofs.play_picks.Given as goal

abbrev pub invariant-loop-given : goal.invariant-loop-given
invariant-loop-given l = record {
  going : Going (running (begun l.initial.seed) l.initial.list (tables_in l.initial.press)) l.given
      (running (record { given = l.given; seed = l.seed }) l.list (tables_in l.press));
  same : SameLent l.initial.press l.press;
}
