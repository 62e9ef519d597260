-- The loop's invariant: the servers passed are printed, each in at most `server_most` bytes.
use Rattle.std.proofs.Common.{◌≡◌, ◌+◌, ◌*◌, ◌≤◌, length}
use Rattle.printing.specs.Texts.{servers_below}
use Rattle.printing.specs.Printed.{Printed}
use Rattle.printing.specs.Sizes.{server_most}
use Rattle.server_text.proofs.print_servers.Given as goal

abbrev pub invariant-loop-server : goal.invariant-loop-server
invariant-loop-server l = Printed l.initial.out l.at (servers_below l.shown.mask l.shown.setpoints.now l.shown.tags.now l.shown.badges.now l.server) l.next l.out
    × ((l.next ≤ l.at + server_most * l.server) × (length l.out ≡ length l.initial.out))
