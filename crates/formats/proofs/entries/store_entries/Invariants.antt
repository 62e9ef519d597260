-- The first i places hold the keys and the numbers of the first i entries; a key has 12 bits, so that its number fits.
use mathlib.Core.Path.{◌≡◌}
use Prim.Native.Nat.{◌+◌, ◌*◌}
use Rattle.ranges.specs.LaidLaws.{Laying}
use Rattle.frame_table.specs.Entry.{entry_bits}
use Rattle.formats.specs.Found.{key_at, number_at}
use Rattle.formats.proofs.entries.store_entries.Given as goal

abbrev pub invariant-loop-i : goal.invariant-loop-i
invariant-loop-i l = (l.at ≡ l.first + l.i * entry_bits l.behind)
    × Laying (key_at l.bytes l.first l.behind) l.entries l.initial.keys l.i l.keys
    × Laying (number_at l.bytes l.first l.behind) l.entries l.initial.numbers l.i l.numbers
