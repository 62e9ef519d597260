-- `load_steps::play_given` meets its contract: the setpoint stands for each server, and the step is played as a line.
use Rattle.std.proofs.Common.{◌≡◌, ◌∙◌, ap, arith}
use Rattle.soundness.specs.Room.{few_servers}
use Rattle.tables.specs.Lent.{tables_in}
use Rattle.tables.specs.Tables.{servers_of}
use Rattle.workload_run.specs.Cases.{given-played}
use Rattle.load_steps.proofs.play_given.Goals as goal

pub returns-clause-played : goal.returns-clause-played
returns-clause-played c =
    let t = tables_in c.args.press.now in
    let k : c.count_at-servers.result ≡ servers_of t = c.count_at-servers.ensures ∙ ap servers_of c.lent.ensures in
    given-played t c.args.picked k (omega (arith, few_servers t c.requires, k)) c.play_step-shown.ensures.shown
