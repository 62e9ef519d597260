-- A row of 16 equal setpoints has as many as there are servers.
use Rattle.std.proofs.Common.{ℕ, arith}
use Rattle.std.proofs.lemmas.List.{length-replicate}
use Rattle.load_text.specs.GivenLaws.{take-equal}
use Rattle.load_text.proofs.print_equal.Goals as goal

pub returns : goal.returns
returns c =
    let p = c.print_step in
    let a = c.args in
    let same = take-equal a.servers 16 a.setpoint c.requires.0 in
    let size = length-replicate {A = ℕ} a.servers a.setpoint in
    (rw same at p.ensures.0, omega (arith, c.requires.0, rw (same, size) at p.ensures.1))
