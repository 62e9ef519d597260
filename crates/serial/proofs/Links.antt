-- What the links of a client have still to bring, as they change.
use Prim.Native.Nat.{ℕ, zero, suc, ◌+◌, ◌*◌, ◌≤◌, ◌<◌}
use mathlib.Core.Path.{◌≡◌, refl, ap, ◌∙◌}
use mathlib.Core.Bool.{true, false}
use native.Mathlib.Omega.{arith}
use Rattle.ranges.specs.Tests.{by-test}
use Rattle.ranges.specs.Sum.{sum_below, count_below}
use Rattle.ranges.specs.SumLaws.{sum_more, sum-set, sum-part, sum-nothing, sum-zero}
use Rattle.keys.specs.Masks.{has_server, servers_in}
use Rattle.tables.specs.Links.{targets}
use Rattle.tables.specs.declared.links.Content.{Content}
use Rattle.tables.specs.declared.links.Content.TheVariants.{Nothing, Request, Reply, Lost}
use Rattle.rules.specs.Common.{coordinator}
use Rattle.claim.specs.History.{changed}
use Rattle.serial.proofs.Places.{changed-same, changed_other}
use Rattle.serial.proofs.Press.{weight, to_come, sends}

-- one link changed
pub come-changed : (link : ℕ → Content) (i : ℕ) (l : Content) → i < targets → to_come (changed link i l) + weight (link i) ≡ to_come link + weight l
come-changed link i l h =
    sum-set (λ j. weight (changed link i l j)) (λ j. weight (link j)) targets i h (λ j k d. ap weight (changed_other link i l j d))
    ∙ ap (λ (x : Content). to_come link + weight x) (changed-same link i l)

weight-zero : (l : Content) → weight l ≡ 0 → l ≡ Nothing
weight-zero Nothing e = refl
weight-zero (Request w) e = let z : ⊥ = omega arith in absurd z
weight-zero (Reply w) e = let z : ⊥ = omega arith in absurd z
weight-zero Lost e = let z : ⊥ = omega arith in absurd z

-- nothing to come: no link holds anything
pub all-empty : (link : ℕ → Content) → to_come link ≡ 0 → (i : ℕ) → i < targets → link i ≡ Nothing
all-empty link e i h = weight-zero (link i) (sum-zero (λ j. weight (link j)) targets e i h)

pub come-none : (link : ℕ → Content) → ((i : ℕ) → i < targets → link i ≡ Nothing) → to_come link ≡ 0
come-none link e = sum-nothing (λ i. weight (link i)) targets (λ i l. ap weight (e i l))

pub come-some : (link : ℕ → Content) (i : ℕ) → i < targets → 0 < weight (link i) → 0 < to_come link
come-some link i h l = omega (arith, sum-part (λ j. weight (link j)) targets i h)

-- a mask of servers does not name the coordinator
pub no-coordinator : (mask k : ℕ) → k ≤ coordinator → ((i : ℕ) → has_server mask i ≡ true → i < k) → has_server mask coordinator ≡ false
no-coordinator mask k l bound = by-test (has_server mask coordinator) (λ e. let z : ⊥ = omega (arith, bound coordinator e) in absurd z) (λ e. e)

module _ (mask : ℕ) (request : ℕ → Content) where
  pub sends_masked : (i : ℕ) → has_server mask i ≡ true → sends mask request i ≡ request i
  unfolding sends
  sends_masked i e = rw e

  pub sends_other : (i : ℕ) → has_server mask i ≡ false → sends mask request i ≡ Nothing
  unfolding sends
  sends_other i e = rw e

  -- two deliveries for each request
  module _ (asks : (i : ℕ) → weight (request i) ≡ 2) where
    sends-sum : (n : ℕ) → sum_below (λ i. weight (sends mask request i)) n ≡ 2 * count_below (has_server mask) n
    unfolding sum_below sends
    sends-sum zero = refl
    sends-sum (suc n) =
        let before = sends-sum n in
        by-test (has_server mask n)
        (λ e. rw e (omega (arith, asks n)))
        (λ e. rw e (omega arith))

    pub sends_come : has_server mask coordinator ≡ false → to_come (sends mask request) ≡ 2 * servers_in mask
    sends_come e =
        omega (arith, sends-sum 16, sum_more (λ i. weight (sends mask request i)) 16, ap weight (sends_other 16 e))
