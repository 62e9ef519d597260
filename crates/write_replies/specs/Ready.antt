-- What the delivery of a reply to a WRITE relies on. Sound tables have all of it.
use Rattle.std.specs.Prelude.{ℕ, ◌<◌, List}
use Rattle.tables.specs.Rows.{HasRow}
use Rattle.tables.specs.Layout.{client_width, client_word, count_field}

-- a client whose count fits a key
pub record CountFits (clients : List ℕ) (q : ℕ) : Type 0 where
  pub client : q < 16
  pub row : HasRow client_width clients q
  pub count : client_word clients q count_field < 256
