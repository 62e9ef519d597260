-- Starred card: "Log: opening, then (1, 0) mask 1. Key at tag 1: station 0 (1, 0), station 1 (0, 0)."
use Rattle.std.specs.Prelude.{ℕ, ◌≡◌, refl, List, [], ◌∷◌}
use Rattle.ranges.specs.Last.{last_below}
use Rattle.keys.specs.Keys.{key_of, opening}
use Rattle.tables.specs.Layout.{put_entry}
use Rattle.coordinator.specs.Latest.{latest_key, latest_tag}

abbrev log : List ℕ
log = put_entry (put_entry (0 ∷ 0 ∷ 0 ∷ 0 ∷ []) 0 opening 3) 1 (key_of 1 0) 1

pub log_card : (latest_key log 0 1 ≡ key_of 1 0) × (latest_key log 1 1 ≡ key_of 0 0)
unfolding last_below
log_card = (refl, refl)

-- and the tags that they come from: 0 for the opening
pub log-tags : (latest_tag log 0 1 ≡ 1) × (latest_tag log 1 1 ≡ 0)
unfolding last_below
log-tags = (refl, refl)
