-- Before turn i the value is the first part with i whole bytes behind it, which leaves room for a byte more.
use Rattle.std.proofs.Common.{◌≡◌}
use Rattle.fields.specs.Parts.{up_to}
use Rattle.fields.proofs.up_to.Given as goal

abbrev pub invariant-loop-i : goal.invariant-loop-i
invariant-loop-i l = l.value ≡ up_to l.bytes l.place l.free l.i
