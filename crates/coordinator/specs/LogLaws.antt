-- The cases of an entry, and what it keeps.
use Rattle.std.specs.Prelude.{ℕ, ◌+◌, ◌≤◌, ◌<◌, ◌≡◌, true, false, List, set, ltb}
use Rattle.std.proofs.Math.Path.{refl}
use borrow.Author.Tests.{lt-ltb, le-ltb}
use Rattle.std.proofs.Common.{get_or-set_other}
use Rattle.ranges.specs.Tests.{by-test, not-both}
use Rattle.keys.specs.declared.Key.{Key}
use Rattle.tables.specs.Layout.{count_at, entries_field, log_places, put_entry}
use Rattle.coordinator.specs.Log.{enter_left, entries_in, entered}

-- the cases of an entry, as the code meets them; n is what was read of the counts
module _ (counts log : List ℕ) (key : Key) (mask : ℕ) {n : ℕ} (d : n ≡ entries_in counts) where
  pub enter-full : log_places ≤ n → enter_left false counts log ≡ entered counts log key mask
  unfolding entered
  enter-full g = rw (← d, le-ltb _ _ g)

  pub enter_done : {counts' log' : List ℕ} → n < log_places → log' ≡ put_entry log n key mask → counts' ≡ set counts entries_field (n + 1) →
      enter_left true counts' log' ≡ entered counts log key mask
  unfolding entered
  enter_done g e f = rw (← d, lt-ltb _ _ g, e, f)

-- what an entry leaves: nothing where it was not made, and every other count as it was
module _ (counts log : List ℕ) (key : Key) (mask : ℕ) where
  pub enter-kept : (entered counts log key mask).done ≡ false → entered counts log key mask ≡ enter_left false counts log
  unfolding entered
  enter-kept e =
      by-test (ltb (entries_in counts) log_places)
      (λ b. absurd (not-both refl (rw b at e)))
      (λ b. rw b)

  pub enter-count : (field : ℕ) → (field ≡ entries_field → ⊥) → count_at (entered counts log key mask).counts field ≡ count_at counts field
  unfolding entered
  enter-count field d =
      by-test (ltb (entries_in counts) log_places)
      (λ b. rw b (get_or-set_other counts entries_field field (entries_in counts + 1) 0 d))
      (λ b. rw b)
