-- The first fault of the entries that are left is that of all.
use Rattle.std.proofs.Common.{◌≡◌, ◌+◌, ◌-◌, ◌*◌}
use Rattle.frame_table.specs.Entry.{key_bits}
use Rattle.formats.specs.Judging.{entries_fault}
use Rattle.frame_faults.proofs.entries_fault.Given as goal

abbrev pub invariant-loop-i : goal.invariant-loop-i
invariant-loop-i l =
    entries_fault l.bytes (l.first + l.i * (key_bits + l.width)) l.width l.least (l.entries - l.i)
    ≡ entries_fault l.bytes l.first l.width l.least l.entries
