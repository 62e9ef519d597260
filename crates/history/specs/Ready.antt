-- What a begin relies on: the counts, a place for its record, and a step number that can grow.
use Rattle.std.specs.Prelude.{ℕ, ◌<◌, ◌≤◌, List, length}
use Rattle.tables.specs.Rows.{HasRow}
use Rattle.tables.specs.Layout.{count_at, count_words, step_field, last_step, record_width}

pub record BeginReady (counts records : List ℕ) (kind : ℕ) : Type 0 where
  pub counted : count_words ≤ length counts
  pub kinded : kind < count_words
  pub stepped : count_at counts step_field < last_step
  pub placed : HasRow record_width records (count_at counts kind)
  pub begun : count_at counts kind < 4294967295
