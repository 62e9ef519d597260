-- `ranges::passed` meets its contract: none before `at` passes, since blocks of which none passes are passed over, and `at` is behind whole
-- blocks.
use Rattle.std.specs.Prelude.{ℕ, Bool, false, ◌≡◌, ◌+◌, ◌*◌, ◌-◌, ◌≤◌}
use Rattle.ranges.specs.All.{any_below}
use Rattle.ranges.specs.FirstLaws.{Sought}
use Rattle.ranges.specs.Blocks.{ends_at}
use Rattle.ranges.proofs.passed.Given as goal

abbrev pub invariant-loop-at : goal.invariant-loop-at
invariant-loop-at g l = record {
  within : l.at ≤ l.n;
  passed : (p : ℕ → Bool) → Sought p l.n l.fn.from →
      ((at : ℕ) → at + l.many ≤ l.n → goal.F-post g l.seen at false → any_below (λ i. p (at + i)) l.many ≡ false) → Sought p l.n l.at;
  blocks : (k : ℕ) × ((l.at ≡ l.fn.from + l.many * k) ×
      ((p : ℕ → Bool) → ((at : ℕ) (b : Bool) → goal.F-post g l.seen at b → b ≡ p at) → Sought (ends_at p l.many l.n l.fn.from) l.n k));
}

abbrev pub decreases-loop-at : goal.decreases-loop-at
decreases-loop-at g l = l.n - l.at
