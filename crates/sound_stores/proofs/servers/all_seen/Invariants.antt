-- `sound_stores::servers::all_seen` meets its contract: what is noted so far is whether the numbers before `i` pass.
use Rattle.std.specs.Prelude.{ℕ, Bool, ◌≡◌}
use Rattle.ranges.specs.All.{all_below}
use Rattle.sound_stores.proofs.servers.all_seen.Given as goal

abbrev pub invariant-loop-i : goal.invariant-loop-i
invariant-loop-i g l = (p : ℕ → Bool) → ((i : ℕ) (b : Bool) → goal.F-post g l.test i b → b ≡ p i) → l.all ≡ all_below p l.i
