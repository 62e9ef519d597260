-- What the delivery of a reply to a READ by A or B relies on, and what it shows. Sound tables have all of it.
use Rattle.std.specs.Prelude.{ℕ, ◌*◌, ◌<◌, ◌≤◌, List, length}
use Rattle.tables.specs.Rows.{HasRow}
use Rattle.tables.specs.Layout.{count_at, servers_field, client_width, entry_width, log_places}
use Rattle.rules.specs.declared.Delivered.{Delivered}
use Rattle.rules.specs.Reply.{shown_tags, read_shown}

-- the keys' number is that of log entries
pub record KeysReady (counts clients log : List ℕ) (q number : ℕ) : Type 0 where
  pub row : HasRow client_width clients q
  pub servers : count_at counts servers_field ≤ 16
  pub some : 0 < number
  pub few : number ≤ log_places
  pub logged : entry_width * number ≤ length log

-- what a READ shows that ends by A or B: all three rows stand in the client's
abbrev pub row_shown : ℕ → List ℕ → ℕ → ℕ → Delivered
row_shown tag clients q mask = read_shown tag (shown_tags clients q mask) clients q mask
