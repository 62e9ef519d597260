-- What the begin of a WRITE relies on. Sound tables have all of it; what the begin of a READ does is `read_asks/Ready`.
use Rattle.std.specs.Prelude.{ℕ, ◌<◌, ◌≤◌, ◌≡◌, List, length}
use Rattle.tables.specs.Rows.{HasRow}
use Rattle.tables.specs.Layout.{count_at, client_width, client_word, count_field, servers_field, writes_field}
use Rattle.tables.specs.Links.{HasLinks}
use Rattle.history.specs.Ready.{BeginReady}

-- the client's row and links, a count that can grow, and a setpoint for each server
pub record WriteReady (counts clients links writes : List ℕ) (q : ℕ) (setpoints : List ℕ) : Type 0 where
  pub begin : BeginReady counts writes writes_field
  pub client : q < 16
  pub row : HasRow client_width clients q
  pub linked : HasLinks links q
  pub count : client_word clients q count_field < 255
  pub servers : count_at counts servers_field ≤ 16
  pub given : length setpoints ≡ count_at counts servers_field
