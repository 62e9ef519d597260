-- What the delivery of a request relies on. Sound tables have all of it.
use Rattle.std.specs.Prelude.{ℕ, ◌<◌, ◌≡◌, List}
use Rattle.tables.specs.Rows.{HasRow}
use Rattle.tables.specs.Layout.{client_width, client_word, state_field}
use Rattle.tables.specs.Links.{targets, link_at}
use Rattle.tables.specs.declared.links.Contents.{Contents}
use Rattle.tables.specs.declared.links.Content.TheVariants.{Request}
use Rattle.rules.specs.Common.{writing, entering, asking_setpoints}
use Rattle.step_parts.specs.Filled.{Fillable}
use Rattle.server_requests.specs.Ready.{AtServer}
use Rattle.coordinator_requests.specs.Ready.{Enterable}

-- what a request of each state finds
pub record Asks (counts clients keys values log writes : List ℕ) (q i : ℕ) : Type 0 where
  pub set : client_word clients q state_field ≡ writing → AtServer counts keys values i
  pub enter : client_word clients q state_field ≡ entering → Enterable counts clients log writes q
  pub get : client_word clients q state_field ≡ asking_setpoints → AtServer counts keys values i

-- all of it: the READs' records take no part
pub record RequestReady (counts clients links keys values log writes : List ℕ) (q i : ℕ) : Type 0 where
  pub fillable : Fillable counts links q i
  pub row : HasRow client_width clients q
  pub target : i < targets
  pub asks : (w : Contents) → (link_at links q i).content ≡ Request w → Asks counts clients keys values log writes q i
