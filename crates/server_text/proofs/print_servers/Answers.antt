-- The loop's invariant: the servers passed are printed, each in at most `server_most` bytes.
use Rattle.std.proofs.Common.{◌∙◌, refl, arith}
use Rattle.printing.specs.TextLaws.{printed_no-server, printed-server}
use Rattle.server_text.proofs.print_servers.Goals as goal

pub loop-server-init : goal.loop-server-init
loop-server-init c =
    let s = c.args.shown.now in
    (printed_no-server c.args.out.now c.args.at (omega arith) s.mask s.setpoints.now s.tags.now s.badges.now, (omega arith, refl))

pub loop-server-preserved : goal.loop-server-preserved
loop-server-preserved c =
    let p = c.loop-server in
    let a = c.args in
    let s = a.shown.now in (
      printed-server a.out.now a.at (omega arith) s.mask s.setpoints.now s.tags.now s.badges.now p.server p.invariant.0
          c.print_masked-next.ensures.0,
      (omega (arith, c.print_masked-next.ensures.1, p.invariant.1.0), c.print_masked-next.auto.out ∙ p.invariant.1.1),
    )
