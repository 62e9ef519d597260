-- What is left of the entries decides as all of them do.
use mathlib.Core.Path.{◌≡◌}
use Prim.Native.Nat.{◌-◌, ◌≤◌}
use Rattle.format_writing.specs.Packing.{entries_right}
use Rattle.format_writing.proofs.entries_right.Given as goal

abbrev pub invariant-loop-i : goal.invariant-loop-i
invariant-loop-i l = (l.i ≤ l.entries) × (entries_right l.behind l.keys l.badges l.numbers l.i (l.entries - l.i) ≡ entries_right l.behind l.keys l.badges l.numbers 0 l.entries)
