-- "A station's versions are lent as a table of records (key, setpoint) in order of arrival, at most 256"; document 02: "Version records
-- hold it after the key", the badge. How many are held is a number beside the table.
use Rattle.std.specs.Prelude.{ℕ, ◌+◌, Bool, cond, ◌&&◌, List, length, set, get_or, replicate, ltb, leb, eqb}
use Rattle.ranges.specs.First.{first_below}
use Rattle.keys.specs.declared.Key.{Key}
use Rattle.keys.specs.Keys.{opening, same_key}
use Rattle.tables.specs.Layout.{server_places}
use Rattle.version_records.specs.declared.Version.{Version}
use Rattle.version_records.specs.Reading.{Reading, Trial}

-- what `get_or` gives past the end of a table: only places that can be read are looked at
abbrev pub no_version : Version
no_version = record { key = opening; badge = 0; setpoint = 0 }

abbrev pub version_at : List Version → ℕ → Version
version_at versions place = get_or versions place no_version

-- a table of this many places is long enough, and takes one more where it holds this many versions
abbrev pub room_for : ℕ → ℕ → Bool
room_for held places = leb server_places places && ltb held server_places

-- "A request delivered there appends (key, setpoint)." Number 2 where the table has not the 256 places of a server, as tables that are not
-- long enough are not sound; then 8: "a set … request finds 256 versions".
unfoldable pub append_number : ℕ → ℕ → ℕ
append_number held places = cond (leb server_places places) (cond (ltb held server_places) 0 8) 2

unfoldable pub append_table : List Version → ℕ → Version → List Version
append_table versions held version = cond (room_for held (length versions)) (set versions held version) versions

-- One more is held after an append that answered 0. It answers 0 only where fewer than 256 were held; the test is asked again, so that the sum is defined for every pair of numbers.
unfoldable pub held_after_lem : ℕ → ℕ → ℕ
held_after_lem held number = cond (eqb number 0 && ltb held server_places) (held + 1) held

-- how many can be read: as many as are held, at most 256, and no more than the table has places
unfoldable pub lesser : ℕ → ℕ → ℕ
lesser m n = cond (ltb m n) m n

abbrev pub readable : ℕ → ℕ → ℕ
readable held places = lesser held (lesser places server_places)

-- "A key is looked up as the first version that bears it."
abbrev pub bears : Version → Key → Bool
bears version key = same_key version.key key

abbrev pub bears_at : List Version → Key → ℕ → Bool
bears_at versions key place = bears (version_at versions place) key

-- the place of that version, and the number that can be read where none bears the key
abbrev pub first_bearing : List Version → ℕ → Key → ℕ
first_bearing versions held key = first_below (bears_at versions key) (readable held (length versions))

-- what is read: badge and setpoint with number 0, or number 8: "a get request a key not held"
abbrev pub found_at : Version → Reading
found_at version = record { number = 0; badge = version.badge; setpoint = version.setpoint }

abbrev pub not_held : Reading
not_held = record { number = 8; badge = 0; setpoint = 0 }

unfoldable pub reading_of : List Version → ℕ → Key → Reading
reading_of versions held key =
    cond (ltb (first_bearing versions held key) (readable held (length versions)))
    (found_at (version_at versions (first_bearing versions held key)))
    not_held

-- A trial: a table takes a version behind those held; then it is told how many can be read, and where and what a key is.
abbrev pub trial_made : ℕ → ℕ → ℕ → Reading → Trial
trial_made number readable place reading = record { number = number; readable = readable; place = place; reading = reading }

unfoldable pub trial_in : List Version → ℕ → Version → Key → Trial
trial_in versions held version key =
    let number = append_number held (length versions) in
    let after = held_after_lem held number in
    let left = append_table versions held version in
    trial_made number (readable after (length left)) (first_bearing left after key) (reading_of left after key)

-- "The yard program fills its 16 × 256 version places": 4096 of them, all with one version
unfoldable pub trial_of : Version → ℕ → Version → Key → Trial
trial_of blank held version key = trial_in (replicate 4096 blank) held version key
