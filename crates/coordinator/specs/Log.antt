-- The coordinator's log grows at its end.
use Rattle.std.specs.Prelude.{ℕ, ◌+◌, ◌*◌, ◌≤◌, ◌<◌, Bool, true, false, cond, List, set, length, eqb, ltb}
use Rattle.ranges.specs.First.{first_below}
use Rattle.keys.specs.declared.Key.{Key}
use Rattle.keys.specs.Keys.{key_word}
use Rattle.tables.specs.Rows.{HasRow}
use Rattle.tables.specs.Layout.{count_at, count_words, entries_field, log_places, entry_width, entry_word, put_entry}

-- what an entry leaves, and whether it was made
pub record Entered : Type 0 where
  pub done : Bool
  pub counts : List ℕ
  pub log : List ℕ

abbrev pub enter_left : Bool → List ℕ → List ℕ → Entered
enter_left done counts log = record { done = done; counts = counts; log = log }

abbrev pub entries_in : List ℕ → ℕ
entries_in counts = count_at counts entries_field

-- "that delivery appends to the log, and the new place is the tag". The log holds entries at tags 0 to 255.
unfoldable pub entered : List ℕ → List ℕ → Key → ℕ → Entered
entered counts log key mask =
    cond (ltb (entries_in counts) log_places)
    (enter_left true (set counts entries_field (entries_in counts + 1)) (put_entry log (entries_in counts) key mask))
    (enter_left false counts log)

-- "a head that has it answers its first tag": the first of n entries that bears a key, and n where none does
abbrev pub entry_bears : List ℕ → Key → ℕ → Bool
entry_bears log key tag = eqb (entry_word log tag) (key_word key)

abbrev pub first_entry : List ℕ → Key → ℕ → ℕ
first_entry log key n = first_below (entry_bears log key) n

-- some entry of the first n bears the key
abbrev pub has_key : List ℕ → Key → ℕ → Bool
has_key log key n = ltb (first_entry log key n) n

-- what an entry asks: the counts, and all places of the log
pub record LogRoom (counts log : List ℕ) : Type 0 where
  pub counted : count_words ≤ length counts
  pub logged : entry_width * log_places ≤ length log

-- a tag of the log: an entry stands there, and the log has no more than its 256 places
pub record HasEntry (log : List ℕ) (tag : ℕ) : Type 0 where
  pub place : tag < log_places
  pub there : HasRow entry_width log tag
