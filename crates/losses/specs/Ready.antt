-- What a resend relies on. Sound tables have all of it.
use Rattle.std.specs.Prelude.{ℕ, ◌<◌, ◌≡◌, List}
use Rattle.tables.specs.Rows.{HasRow}
use Rattle.tables.specs.Layout.{client_width, client_word, state_field, count_field}
use Rattle.tables.specs.Links.{targets, link_at}
use Rattle.tables.specs.declared.links.Content.TheVariants.{Lost}
use Rattle.rules.specs.Common.{asking_setpoints}
use Rattle.step_parts.specs.Filled.{Fillable}

-- a client's row, whose count fits a key; while it asks for setpoints the target is a server
pub record Sends (clients : List ℕ) (q i : ℕ) : Type 0 where
  pub client : q < 16
  pub row : HasRow client_width clients q
  pub count : client_word clients q count_field < 256
  pub target : i < targets
  pub server : client_word clients q state_field ≡ asking_setpoints → i < 16

pub record ResendReady (counts clients links : List ℕ) (q i : ℕ) : Type 0 where
  pub fillable : Fillable counts links q i
  pub sends : (link_at links q i).content ≡ Lost → Sends clients q i
