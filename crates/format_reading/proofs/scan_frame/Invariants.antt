-- The row holds the fixed values so far, and what is left of the format is read from the next bit on, with the row of the kind; behind them
-- the entries decide, as many as the last of them says.
use mathlib.Core.Path.{◌≡◌}
use Prim.Native.Nat.{◌-◌}
use lib.ListN.{get_or}
use Rattle.frame_table.specs.Table.{many_place, entry_place}
use Rattle.formats.specs.FormatLaws.{Rowed}
use Rattle.formats.specs.Reading.{Come, Said}
use Rattle.format_reading.proofs.scan_frame.Given as goal

abbrev pub invariant-loop-state : goal.invariant-loop-state
invariant-loop-state l = (Come l.bytes l.fixed l.at l.state) × (Rowed l.kind l.at l.state) × (l.state.place ≡ entry_place → Said l.kind (get_or l.fixed many_place 0) l.state.left)

abbrev pub decreases-loop-state : goal.decreases-loop-state
decreases-loop-state l = entry_place - l.state.place
