-- `log_search::put_tag` meets its contract: the loop has put the tag for the servers of the mask that it has passed.
use Prim.Native.Nat.{◌≤◌}
use mathlib.Core.Path.{◌≡◌}
use Rattle.ranges.specs.Picked.{laid_over}
use Rattle.keys.specs.Masks.{has_server}
use Rattle.log_search.proofs.put_tag.Given as goal

abbrev pub invariant-loop-server : goal.invariant-loop-server
invariant-loop-server l = (l.server ≤ l.servers) × (l.tags ≡ laid_over (has_server l.mask) (λ i. l.tag) l.server l.initial.tags)
