-- The cases of an append, and what it keeps.
use Rattle.std.specs.Prelude.{ℕ, ◌+◌, ◌≤◌, ◌<◌, ◌≡◌, true, false, List, set, ltb}
use Rattle.std.proofs.Math.Path.{refl}
use borrow.Author.Tests.{lt-ltb, le-ltb}
use Rattle.std.proofs.Common.{get_or-set_other}
use Rattle.ranges.specs.Tests.{by-test, not-both}
use Rattle.keys.specs.declared.Key.{Key}
use Rattle.keys.specs.Keys.{key_word}
use Rattle.tables.specs.Layout.{count_at, held_field, server_places, put_version_word, put_value}
use Rattle.server.specs.Held.{append_left, held_by, appended}

-- the cases of an append, as the code meets them; h is what was read of the counts
module _ (counts keys values : List ℕ) (i : ℕ) (key : Key) (badge setpoint : ℕ) {h : ℕ} (d : h ≡ held_by counts i) where
  pub append-full : server_places ≤ h → append_left false counts keys values ≡ appended counts keys values i key badge setpoint
  unfolding appended
  append-full g = rw (← d, le-ltb _ _ g)

  pub append-stored : {keys' values' counts' : List ℕ} → h < server_places →
      keys' ≡ put_version_word keys i h (key_word key) → values' ≡ put_value values i h badge setpoint →
      counts' ≡ set counts (held_field + i) (h + 1) → append_left true counts' keys' values' ≡ appended counts keys values i key badge
      setpoint
  unfolding appended
  append-stored g k v n = rw (← d, lt-ltb _ _ g, k, v, n)

-- what an append leaves: nothing where it was not done, and every other count as it was
module _ (counts keys values : List ℕ) (i : ℕ) (key : Key) (badge setpoint : ℕ) where
  pub append-kept : (appended counts keys values i key badge setpoint).done ≡ false →
      appended counts keys values i key badge setpoint ≡ append_left false counts keys values
  unfolding appended
  append-kept e =
      by-test (ltb (held_by counts i) server_places)
      (λ b. absurd (not-both refl (rw b at e)))
      (λ b. rw b)

  pub append-count : (field : ℕ) → (field ≡ held_field + i → ⊥) →
      count_at (appended counts keys values i key badge setpoint).counts field ≡ count_at counts field
  unfolding appended
  append-count field d =
      by-test (ltb (held_by counts i) server_places)
      (λ b. rw b (get_or-set_other counts (held_field + i) field (held_by counts i + 1) 0 d))
      (λ b. rw b)
