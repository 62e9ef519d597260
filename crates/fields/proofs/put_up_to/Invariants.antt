-- What is left to put, into the bytes as they are, gives the same in each turn.
use Rattle.std.proofs.Common.{◌≡◌}
use Rattle.fields.specs.Parts.{put_up_to}
use Rattle.fields.proofs.put_up_to.Given as goal

abbrev pub invariant-loop-i : goal.invariant-loop-i
invariant-loop-i l = put_up_to l.bytes l.place l.free l.i l.rest ≡ put_up_to l.initial.bytes l.place l.free l.n l.value
