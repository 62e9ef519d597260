-- What is left of the entries, laid into the bytes as they are, gives what all of them give.
use mathlib.Core.Path.{◌≡◌}
use Prim.Native.Nat.{◌+◌, ◌-◌, ◌*◌, ◌≤◌}
use mathlib.Core.Bool.{true}
use lib.ListN.{length}
use Rattle.frame_table.specs.Entry.{entry_bits}
use Rattle.format_writing.specs.Packing.{entries_right, entries_laid}
use Rattle.format_writing.proofs.lay_entries.Given as goal

abbrev pub invariant-loop-i : goal.invariant-loop-i
invariant-loop-i l = (l.i ≤ l.entries)
    × (length l.bytes ≡ length l.initial.bytes)
    × (l.at + (l.entries - l.i) * entry_bits l.behind ≡ l.first + l.entries * entry_bits l.behind)
    × (entries_laid l.behind l.keys l.badges l.numbers l.i (l.entries - l.i) l.bytes l.at ≡ entries_laid l.behind l.keys l.badges l.numbers 0 l.entries l.initial.bytes l.first)
    × (entries_right l.behind l.keys l.badges l.numbers l.i (l.entries - l.i) ≡ true)
