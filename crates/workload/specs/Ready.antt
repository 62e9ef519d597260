-- What telling the acceptable steps relies on. Sound tables have all of it.
use Rattle.std.specs.Prelude.{ℕ, ◌+◌, ◌*◌, ◌≤◌, ◌<◌, ◌≡◌, List, length}
use Rattle.server.specs.Held.{held_by}
use Rattle.coordinator.specs.Log.{entries_in}
use Rattle.tables.specs.Layout.{count_at, count_words, clients_field, client_word, state_field, count_field, server_places, entry_width}
use Rattle.tables.specs.Links.{targets, link_width, link_at}
use Rattle.tables.specs.declared.links.Contents.{Contents}
use Rattle.tables.specs.declared.links.Content.TheVariants.{Request}
use Rattle.rules.specs.Common.{writing, entering, asking_setpoints}
use Rattle.refusals.specs.Cases.{Judged}

-- a server whose versions can be looked through
pub record Searched (counts keys : List ℕ) (i : ℕ) : Type 0 where
  pub counted : count_words ≤ length counts
  pub server : i < 16
  pub held : server_places * i + held_by counts i ≤ length keys

-- a log whose entries can be looked through
pub record Logged (counts log : List ℕ) : Type 0 where
  pub counted : count_words ≤ length counts
  pub entries : entry_width * entries_in counts ≤ length log

-- a set and a get ask a server, an enter the coordinator
pub record Served (counts keys log : List ℕ) (state i : ℕ) : Type 0 where
  pub counted : count_words ≤ length counts
  pub set : state ≡ writing → Searched counts keys i
  pub enter : state ≡ entering → Logged counts log
  pub get : state ≡ asking_setpoints → Searched counts keys i

-- the steps can be numbered, and a client's count can grow by one
pub record Numberable (counts clients : List ℕ) : Type 0 where
  pub judged : Judged counts clients
  pub few : count_at counts clients_field ≤ 16
  pub fits : (q : ℕ) → q < count_at counts clients_field → client_word clients q count_field ≤ 255

pub record Scanned (counts clients links keys log : List ℕ) : Type 0 where
  pub numberable : Numberable counts clients
  pub linked : link_width * (targets * count_at counts clients_field) ≤ length links
  pub served : (q i : ℕ) (w : Contents) → q < count_at counts clients_field → i < targets → (link_at links q i).content ≡ Request w →
      Served counts keys log (client_word clients q state_field) i
