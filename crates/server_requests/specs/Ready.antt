-- What a request at a server relies on. Sound tables have all of it.
use Rattle.std.specs.Prelude.{ℕ, ◌≤◌, List}
use Rattle.server.specs.Held.{Room, held_by}
use Rattle.tables.specs.Layout.{server_places}

-- the target is a server with all its places
pub record AtServer (counts keys values : List ℕ) (i : ℕ) : Type 0 where
  pub room : Room counts keys values i
  pub held : held_by counts i ≤ server_places
