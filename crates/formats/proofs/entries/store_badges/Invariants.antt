-- The first i places hold the badges of the first i entries.
use mathlib.Core.Path.{◌≡◌}
use Prim.Native.Nat.{◌+◌, ◌*◌}
use Rattle.ranges.specs.LaidLaws.{Laying}
use Rattle.frame_table.specs.Entry.{entry_bits}
use Rattle.formats.specs.Found.{badge_at}
use Rattle.formats.proofs.entries.store_badges.Given as goal

abbrev pub invariant-loop-i : goal.invariant-loop-i
invariant-loop-i l = (l.at ≡ l.first + l.i * entry_bits l.behind) × Laying (badge_at l.bytes l.first l.behind) l.entries l.initial.badges l.i l.badges
