-- Laws of the latest key: the cases as the search meets them, and what a longer log leaves.
use Rattle.std.specs.Prelude.{ℕ, ◌+◌, ◌-◌, ◌≤◌, ◌<◌, ◌≡◌, Bool, true, false, List}
use Rattle.std.proofs.Common.{sym, ap, arith}
use Rattle.ranges.specs.Tests.{by_equal}
use Rattle.ranges.specs.LastLaws.{last-here, last-before, last-below, last-same}
use Rattle.keys.specs.declared.Key.{Key}
use Rattle.keys.specs.Masks.{has_server}
use Rattle.tables.specs.Layout.{entry_mask, put_entry}
use Rattle.tables.specs.Entries.{entry-mask_other}
use Rattle.coordinator.specs.Latest.{wrote, latest_tag}

-- the tag found is at most the tag asked for
pub latest-within : (log : List ℕ) (i t : ℕ) → latest_tag log i t ≤ t
latest-within log i t = omega (arith, last-below (wrote log i) (t + 1) (omega arith))

-- the cases of the search, as the code meets them
module _ (log : List ℕ) (i t : ℕ) where
  module _ {mask : ℕ} {has : Bool} (m : mask ≡ entry_mask log t) (b : has ≡ has_server mask i) where
    pub latest-here : has ≡ true → t ≡ latest_tag log i t
    latest-here e = sym (last-here (wrote log i) t (rw (← m, ← b) e))

    pub latest-before : (t ≡ 0 → ⊥) → has ≡ false → latest_tag log i (t - 1) ≡ latest_tag log i t
    latest-before z e =
        let n : t - 1 + 1 ≡ t = by_equal t 0 (λ y. absurd (z y)) (λ y. omega arith) in
        rw n (sym (last-before (wrote log i) t (rw (← m, ← b) e)))

-- an entry put behind a tag leaves the keys at that tag
module _ (log : List ℕ) (n : ℕ) (key : Key) (mask : ℕ) (i t : ℕ) (h : t < n) where
  pub latest-tag-kept : latest_tag (put_entry log n key mask) i t ≡ latest_tag log i t
  latest-tag-kept = last-same (wrote (put_entry log n key mask) i) (wrote log i) (t + 1) (λ u l. ap (λ (m : ℕ). has_server m i) (entry-mask_other log n key mask u (λ e. omega arith)))
