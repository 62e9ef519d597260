-- "the tag is the greatest t in the log received such that, for each masked station, its key at t is among the versions received"
use Rattle.std.specs.Prelude.{ℕ, Bool, true, cond, List, ltb}
use Rattle.ranges.specs.All.{all_below}
use Rattle.ranges.specs.Last.{last_below}
use Rattle.keys.specs.declared.Key.{Key}
use Rattle.keys.specs.Masks.{has_server}
use Rattle.tables.specs.Layout.{version_badge, version_setpoint}
use Rattle.server.specs.Held.{first_bearing}
use Rattle.coordinator.specs.Latest.{latest_key}

-- a key is among the versions received from server i; received gives the n that came from each target
abbrev pub holds_key : List ℕ → (ℕ → ℕ) → Key → ℕ → Bool
holds_key keys received key i = ltb (first_bearing keys i key (received i)) (received i)

abbrev pub has_version : List ℕ → List ℕ → (ℕ → ℕ) → ℕ → ℕ → Bool
has_version keys log received t i = holds_key keys received (latest_key log i t) i

-- a server does not stand in a tag's way: the mask does not have it, or its key at the tag was received
abbrev pub serves : List ℕ → List ℕ → ℕ → (ℕ → ℕ) → ℕ → ℕ → Bool
serves keys log mask received t i = cond (has_server mask i) (has_version keys log received t i) true

abbrev pub qualifies : List ℕ → List ℕ → ℕ → (ℕ → ℕ) → ℕ → ℕ → Bool
qualifies keys log mask received k t = all_below (serves keys log mask received t) k

-- among the first n entries of the log; 0 where none qualifies: on sound tables tag 0 does
abbrev pub chosen_tag : List ℕ → List ℕ → ℕ → (ℕ → ℕ) → ℕ → ℕ → ℕ
chosen_tag keys log mask received k n = last_below (qualifies keys log mask received k) n

-- the version of server i at a tag, among those received: its setpoint, and its badge
abbrev pub chosen_place : List ℕ → List ℕ → (ℕ → ℕ) → ℕ → ℕ → ℕ
chosen_place keys log received t i = first_bearing keys i (latest_key log i t) (received i)

abbrev pub chosen_setpoint : List ℕ → List ℕ → List ℕ → (ℕ → ℕ) → ℕ → ℕ → ℕ
chosen_setpoint keys values log received t i = version_setpoint values i (chosen_place keys log received t i)

abbrev pub chosen_badge : List ℕ → List ℕ → List ℕ → (ℕ → ℕ) → ℕ → ℕ → ℕ
chosen_badge keys values log received t i = version_badge values i (chosen_place keys log received t i)
