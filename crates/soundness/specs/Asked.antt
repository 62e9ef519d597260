-- What the parts of the check ask of the tables before they read them: no place is read that is not there.
use Rattle.std.specs.Prelude.{ℕ, ◌*◌, ◌≤◌, ◌<◌, List, length}
use Rattle.tables.specs.Layout.{count_at, count_words, servers_field, clients_field, entries_field, writes_field, reads_field, client_width}
use Rattle.tables.specs.Layout.{server_places, value_width, log_places, entry_width, record_places, record_width}
use Rattle.tables.specs.Rows.{HasRow}
use Rattle.tables.specs.Links.{link_width, link_row, targets, HasLinks}

-- the counts are there, and those that bound other tables are in their ranges
pub record Counted (counts : List ℕ) : Type 0 where
  pub long : count_words ≤ length counts
  pub servers : count_at counts servers_field ≤ 16
  pub clients : count_at counts clients_field ≤ 16
  pub client : 0 < count_at counts clients_field
  pub entries : count_at counts entries_field ≤ log_places
  pub writes : count_at counts writes_field ≤ record_places
  pub reads : count_at counts reads_field ≤ record_places

-- the versions of the servers in use: their keys, and their badges and setpoints
pub record VersionsThere (counts keys values : List ℕ) : Type 0 where
  pub keyed : server_places * count_at counts servers_field ≤ length keys
  pub valued : value_width * (server_places * count_at counts servers_field) ≤ length values

abbrev pub LogThere : List ℕ → Type 0
LogThere log = entry_width * log_places ≤ length log

-- the rows of the clients in use, and their links
abbrev pub RowsThere : List ℕ → List ℕ → Type 0
RowsThere counts clients = client_width * count_at counts clients_field ≤ length clients

pub record ClientsThere (counts clients links : List ℕ) : Type 0 where
  pub rows : RowsThere counts clients
  pub linked : link_width * (targets * count_at counts clients_field) ≤ length links

-- one client's row, and all its links
pub record ClientThere (clients links : List ℕ) (q : ℕ) : Type 0 where
  pub row : HasRow client_width clients q
  pub linked : HasLinks links q

-- one client's row, and one of its links
pub record LinkThere (clients links : List ℕ) (q i : ℕ) : Type 0 where
  pub target : i < targets
  pub row : HasRow client_width clients q
  pub link : HasRow link_width links (link_row q i)

abbrev pub RecordsThere : List ℕ → Type 0
RecordsThere records = record_width * record_places ≤ length records

-- all of it
pub record TablesThere (counts clients links keys values log writes reads : List ℕ) : Type 0 where
  pub counted : Counted counts
  pub client : ClientsThere counts clients links
  pub stored : VersionsThere counts keys values
  pub entered : LogThere log
  pub written : RecordsThere writes
  pub begun : RecordsThere reads
