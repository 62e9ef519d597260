-- When a table of version records says the same as the core's two slices, in which a server has 256 places: key words in one, badges and
-- setpoints in the other.
use Rattle.std.specs.Prelude.{ℕ, ◌≤◌, ◌<◌, ◌≡◌, cond, List, length, ltb}
use Rattle.keys.specs.declared.Key.{Key}
use Rattle.keys.specs.Keys.{key_word, FitsByte}
use Rattle.tables.specs.Layout.{server_places, version_word, version_badge, version_setpoint}
use Rattle.server.specs.Held as held
use Rattle.version_records.specs.declared.Version.{Version}
use Rattle.version_records.specs.Reading.{Reading}
use Rattle.version_records.specs.Table.{version_at, not_held}

-- The 256 places of server i hold, in the two slices, the words of the first 256 records of the table: the key as one word, the badge and
-- the setpoint. A key's count and client fit a byte each, as they do in every table that the code is lent; so no two keys have one word.
pub record SameTable (versions : List Version) (keys values : List ℕ) (i : ℕ) : Type 0 where
  pub places : server_places ≤ length versions
  pub words : (place : ℕ) → place < server_places → version_word keys i place ≡ key_word (version_at versions place).key
  pub badges : (place : ℕ) → place < server_places → version_badge values i place ≡ (version_at versions place).badge
  pub setpoints : (place : ℕ) → place < server_places → version_setpoint values i place ≡ (version_at versions place).setpoint
  pub fits : (place : ℕ) → place < server_places → FitsByte (version_at versions place).key

abbrev pub version_of : Key → ℕ → ℕ → Version
version_of key badge setpoint = record { key = key; badge = badge; setpoint = setpoint }

-- what the core reads of a key where n are held: badge and setpoint at the place found, or 8
abbrev pub core_reading : List ℕ → List ℕ → ℕ → ℕ → Key → Reading
core_reading keys values i n key =
    let place = held.first_bearing keys i key n in
    cond (ltb place n) (record { number = 0; badge = version_badge values i place; setpoint = version_setpoint values i place }) not_held
