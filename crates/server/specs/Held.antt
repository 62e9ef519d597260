-- A server's versions, in order of arrival.
use Rattle.std.specs.Prelude.{ℕ, ◌+◌, ◌≤◌, ◌<◌, Bool, true, false, cond, List, set, length, eqb, ltb}
use Rattle.ranges.specs.First.{first_below}
use Rattle.keys.specs.declared.Key.{Key}
use Rattle.keys.specs.Keys.{key_word}
use Rattle.tables.specs.Rows.{HasRow}
use Rattle.tables.specs.Layout.{count_at, held_field, server_places, version_word, put_version_word, put_value, HasValues, count_words}

-- "A request delivered there appends (key, setpoint)", with its badge. What an append leaves, and whether it was done: 256 are the most.
pub record Appended : Type 0 where
  pub done : Bool
  pub counts : List ℕ
  pub keys : List ℕ
  pub values : List ℕ

abbrev pub append_left : Bool → List ℕ → List ℕ → List ℕ → Appended
append_left done counts keys values = record { done = done; counts = counts; keys = keys; values = values }

abbrev pub held_by : List ℕ → ℕ → ℕ
held_by counts i = count_at counts (held_field + i)

-- the version goes to the first place that is not held, and one more is held
abbrev pub stored : List ℕ → List ℕ → List ℕ → ℕ → Key → ℕ → ℕ → Appended
stored counts keys values i key badge setpoint =
    append_left true
    (set counts (held_field + i) (held_by counts i + 1))
    (put_version_word keys i (held_by counts i) (key_word key))
    (put_value values i (held_by counts i) badge setpoint)

unfoldable pub appended : List ℕ → List ℕ → List ℕ → ℕ → Key → ℕ → ℕ → Appended
appended counts keys values i key badge setpoint =
    cond (ltb (held_by counts i) server_places)
    (stored counts keys values i key badge setpoint)
    (append_left false counts keys values)

-- "A key is looked up as the first version that bears it." The place of that version among the first n, and n where none bears it.
abbrev pub bears : List ℕ → ℕ → Key → ℕ → Bool
bears keys i key place = eqb (version_word keys i place) (key_word key)

abbrev pub first_bearing : List ℕ → ℕ → Key → ℕ → ℕ
first_bearing keys i key n = first_below (bears keys i key) n

-- some version of the first n bears the key: "A station that holds the key already"
abbrev pub holds : List ℕ → ℕ → Key → ℕ → Bool
holds keys i key n = ltb (first_bearing keys i key n) n

-- what an append asks: the counts, and all places of the server
pub record Room (counts keys values : List ℕ) (i : ℕ) : Type 0 where
  pub server : i < 16
  pub counted : count_words ≤ length counts
  pub keyed : HasRow server_places keys i
  pub valued : HasValues values i
