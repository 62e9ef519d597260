-- What a look at the versions received from a server relies on: the client's row, and as many versions as were received.
use Rattle.std.specs.Prelude.{ℕ, ◌+◌, ◌*◌, ◌≤◌, ◌<◌, List, length}
use Rattle.tables.specs.Rows.{HasRow}
use Rattle.tables.specs.Layout.{client_width, server_places}
use Rattle.rules.specs.Reply.{received_in}

pub record Received (clients keys : List ℕ) (q i : ℕ) : Type 0 where
  pub server : i < 16
  pub row : HasRow client_width clients q
  pub held : server_places * i + received_in clients q i ≤ length keys
  pub count : received_in clients q i ≤ server_places
