-- `holder_slots::mark_versions` meets its contract: the loop has marked the versions it has passed.
use Rattle.std.proofs.Common.{◌≡◌}
use Rattle.holder_slots.specs.Holders.{mark_versions}
use Rattle.holder_slots.proofs.mark_versions.Given as goal

abbrev pub invariant-loop-place : goal.invariant-loop-place
invariant-loop-place l = l.holders ≡ mark_versions l.keys l.server l.place l.initial.holders
