-- The rows passed are printed, each in as many bytes as a line can have.
use Prim.Native.Nat.{◌+◌, ◌*◌, ◌≤◌}
use mathlib.Core.Path.{◌≡◌}
use lib.ListN.{length}
use Rattle.printing.specs.Printed.{Printed}
use Rattle.printing.specs.Sizes.{record_most}
use Rattle.register_text.specs.Text.{rows_text}
use Rattle.register_text.proofs.print_rows.Given as goal

abbrev pub invariant-loop-i : goal.invariant-loop-i
invariant-loop-i l =
    Printed l.initial.out l.at (rows_text l.list l.i) l.next l.out
    × ((l.next ≤ l.at + record_most * l.i) × (length l.out ≡ length l.initial.out))
