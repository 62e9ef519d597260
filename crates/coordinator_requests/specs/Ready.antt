-- What an enter request relies on. Sound tables have all of it.
use Rattle.std.specs.Prelude.{ℕ, ◌≤◌, List}
use Rattle.coordinator.specs.Log.{LogRoom, entries_in}
use Rattle.tables.specs.Rows.{HasRow}
use Rattle.tables.specs.Layout.{client_width, client_word, record_field, log_places, record_width}

-- the log has its places, no more of them are taken, and the client's record of a WRITE is there
pub record Enterable (counts clients log writes : List ℕ) (q : ℕ) : Type 0 where
  pub room : LogRoom counts log
  pub few : entries_in counts ≤ log_places
  pub row : HasRow client_width clients q
  pub recorded : HasRow record_width writes (client_word clients q record_field)
