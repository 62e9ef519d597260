-- What the begin of a READ relies on. Sound tables have all of it.
use Rattle.std.specs.Prelude.{ℕ, ◌≤◌, List, length}
use Rattle.tables.specs.Rows.{HasRow}
use Rattle.tables.specs.Layout.{count_at, count_words, client_width, servers_field}
use Rattle.tables.specs.Links.{HasLinks}

-- the client's row and links
pub record AskReady (counts clients links : List ℕ) (q : ℕ) : Type 0 where
  pub counted : count_words ≤ length counts
  pub servers : count_at counts servers_field ≤ 16
  pub row : HasRow client_width clients q
  pub linked : HasLinks links q
