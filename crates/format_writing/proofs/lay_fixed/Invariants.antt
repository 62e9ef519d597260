-- The values so far are laid, and the next begins behind them.
use mathlib.Core.Path.{◌≡◌}
use Prim.Native.Nat.{◌-◌, ◌≤◌}
use Rattle.frame_table.specs.Table.{entry_place}
use Rattle.formats.specs.Walk.{first_bit}
use Rattle.format_writing.specs.Packing.{laid_to}
use Rattle.format_writing.proofs.lay_fixed.Given as goal

abbrev pub invariant-loop-place : goal.invariant-loop-place
invariant-loop-place l = (l.place ≤ entry_place) × (l.at ≡ first_bit l.fixed l.place) × (l.bytes ≡ laid_to l.fixed l.initial.bytes l.place)
