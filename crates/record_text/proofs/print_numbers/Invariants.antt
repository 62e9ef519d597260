-- The loop's invariant: the numbers passed are printed, each in at most eleven bytes.
use Rattle.std.proofs.Common.{◌≡◌, ◌+◌, ◌*◌, ◌≤◌, length, take}
use Rattle.schedule.specs.Decimal.{spaced_all}
use Rattle.printing.specs.Printed.{Printed}
use Rattle.printing.specs.Sizes.{marked_most}
use Rattle.record_text.proofs.print_numbers.Given as goal

abbrev pub invariant-loop-number : goal.invariant-loop-number
invariant-loop-number l = Printed l.initial.out l.at (spaced_all (take l.number-index l.numbers)) l.next l.out
    × ((l.next ≤ l.at + marked_most * l.number-index) × (length l.out ≡ length l.initial.out))
