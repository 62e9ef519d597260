-- Of specs/LatestLaws: what cites a theorem there that a changed definition can make fail.
use Rattle.std.specs.Prelude.{ℕ, ◌<◌, ◌≡◌, List}
use Rattle.std.proofs.Common.{arith}
use Rattle.keys.specs.declared.Key.{Key}
use Rattle.tables.specs.Layout.{put_entry}
use Rattle.tables.specs.Entries.{entry_key_other}
use Rattle.coordinator.specs.Latest.{latest_tag, latest_key}
use Rattle.coordinator.specs.LatestLaws.{latest-tag-kept, latest-within}

-- the cases of the search, as the code meets them
module _ (log : List ℕ) (i t : ℕ) where
  pub latest-first : t ≡ 0 → 0 ≡ latest_tag log i t
  latest-first e = omega (arith, latest-within log i t)

-- an entry put behind a tag leaves the keys at that tag
module _ (log : List ℕ) (n : ℕ) (key : Key) (mask : ℕ) (i t : ℕ) (h : t < n) where
  pub latest_key-kept : latest_key (put_entry log n key mask) i t ≡ latest_key log i t
  latest_key-kept = rw (latest-tag-kept log n key mask i t h) (entry_key_other log n key mask (latest_tag log i t) (λ e. omega (arith, latest-within log i t)))
