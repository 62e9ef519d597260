-- A loop that asks a test of each number below n, where the test goes by tables; m is how the definition names n.
use Rattle.std.specs.Prelude.{ℕ, ◌+◌, ◌≤◌, ◌<◌, ◌≡◌, Bool, true, false, not}
use Rattle.std.proofs.Common.{arith}
use Rattle.ranges.specs.All.{all_below}
use Rattle.ranges.specs.AllLaws.{all_none, all-next, all_stop, all_end}
use Rattle.tables.specs.Tables.{Tables}

-- The test goes by tables t of which the loop reads a part: it passes whatever the other tables hold.
pub record Passed (p : Tables → ℕ → Bool) (n i : ℕ) : Type 0 where
  pub within : i ≤ n
  pub passed : (t : Tables) → all_below (p t) i ≡ true

module _ {p : Tables → ℕ → Bool} {n : ℕ} where
  pub passed_none : Passed p n 0
  passed_none = record { within = omega arith; passed = λ t. all_none (p t) }

  module _ {i : ℕ} {r : Bool} (a : Passed p n i) where
    pub passed-more : i < n → ((t : Tables) → r ≡ p t i) → not r ≡ false → Passed p n (i + 1)
    passed-more h d e = record { within = omega arith; passed = λ t. all-next (p t) i (a.passed t) (d t) e }

    pub passed_stop : {m : ℕ} → n ≡ m → i < n → ((t : Tables) → r ≡ p t i) → not r ≡ true → (t : Tables) → false ≡ all_below (p t) m
    passed_stop s h d e t = all_stop (p t) i s h (d t) e

  module _ {i : ℕ} (a : Passed p n i) where
    pub passed-end : {m : ℕ} → n ≡ m → n ≤ i → (t : Tables) → true ≡ all_below (p t) m
    passed-end s h t = all_end (p t) i s a.within h (a.passed t)
