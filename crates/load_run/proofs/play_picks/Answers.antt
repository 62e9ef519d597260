-- `load_run::play_picks` meets its contract: the load is on its way from where it began (`Going`).
use Rattle.std.proofs.Common.{arith, refl, rules}
use Rattle.tables.specs.Lent.{tables_in}
use Rattle.workload_run.specs.Cases.{picked-one, picked-none}
use Rattle.workload_run.specs.Run.{running, begun}
use Rattle.workload_run.specs.RunLaws.{going-begun, going_on, going-ended}
use Rattle.load_run.proofs.play_picks.Goals as goal

pub loop-given-init : goal.loop-given-init
loop-given-init c = record { going = going-begun _ c.requires.sound; same = search rules }

pub loop-given-preserved : goal.loop-given-preserved
loop-given-preserved c =
    let at = c.loop-given in
    record {
      going = going_on _ at.invariant.going
          (picked-one (record { given = at.given; seed = at.seed }) at.list (tables_in at.press) c.in-Some.ensures.took
          (refl, c.put_step.ensures));
      same = search rules;
    }

pub returns-in_default-clause-played : goal.returns-in_default-clause-played
returns-in_default-clause-played c =
    let at = c.loop-given in
    let none = picked-none (record { given = at.given; seed = at.seed }) at.list (tables_in at.press) c.in_default.ensures.took in
    rw none.0 (going-ended _ at.invariant.going none.1 (omega arith))
