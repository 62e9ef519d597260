-- All tables as one record, a setter for each, and the words that definitions speak of by name.
use Rattle.std.specs.Prelude.{ℕ, ◌+◌, List}
use Rattle.tables.specs.Layout.{count_at, method_field, servers_field, clients_field, step_field, entries_field, writes_field, reads_field}
use Rattle.tables.specs.Layout.{held_field, client_word, state_field, count_field, mask_field, tag_field, record_field, received_field}
use Rattle.tables.specs.Layout.{setpoints_field, tags_field, badges_field, write_badge_field, asked_field}
use Rattle.tables.specs.Links.{link_at}
use Rattle.tables.specs.declared.links.Content.{Content}

pub record Tables : Type 0 where
  pub counts : List ℕ
  pub clients : List ℕ
  pub links : List ℕ
  pub keys : List ℕ
  pub values : List ℕ
  pub log : List ℕ
  pub writes : List ℕ
  pub reads : List ℕ

abbrev pub tables_of : List ℕ → List ℕ → List ℕ → List ℕ → List ℕ → List ℕ → List ℕ → List ℕ → Tables
tables_of counts clients links keys values log writes reads =
    record { counts = counts; clients = clients; links = links; keys = keys; values = values; log = log; writes = writes; reads = reads }

abbrev pub with_counts : List ℕ → Tables → Tables
with_counts x t = tables_of x t.clients t.links t.keys t.values t.log t.writes t.reads

abbrev pub with_clients : List ℕ → Tables → Tables
with_clients x t = tables_of t.counts x t.links t.keys t.values t.log t.writes t.reads

abbrev pub with_links : List ℕ → Tables → Tables
with_links x t = tables_of t.counts t.clients x t.keys t.values t.log t.writes t.reads

abbrev pub with_versions : List ℕ → List ℕ → Tables → Tables
with_versions x y t = tables_of t.counts t.clients t.links x y t.log t.writes t.reads

abbrev pub with_log : List ℕ → Tables → Tables
with_log x t = tables_of t.counts t.clients t.links t.keys t.values x t.writes t.reads

abbrev pub with_writes : List ℕ → Tables → Tables
with_writes x t = tables_of t.counts t.clients t.links t.keys t.values t.log x t.reads

abbrev pub with_reads : List ℕ → Tables → Tables
with_reads x t = tables_of t.counts t.clients t.links t.keys t.values t.log t.writes x

-- the counts by name
abbrev pub method_of : Tables → ℕ
method_of t = count_at t.counts method_field

abbrev pub servers_of : Tables → ℕ
servers_of t = count_at t.counts servers_field

abbrev pub clients_of : Tables → ℕ
clients_of t = count_at t.counts clients_field

abbrev pub step_of : Tables → ℕ
step_of t = count_at t.counts step_field

abbrev pub entries_of : Tables → ℕ
entries_of t = count_at t.counts entries_field

abbrev pub writes_of : Tables → ℕ
writes_of t = count_at t.counts writes_field

abbrev pub reads_of : Tables → ℕ
reads_of t = count_at t.counts reads_field

abbrev pub held_of : Tables → ℕ → ℕ
held_of t i = count_at t.counts (held_field + i)

-- the words of a client's row by name
abbrev pub state_of : Tables → ℕ → ℕ
state_of t q = client_word t.clients q state_field

abbrev pub count_of : Tables → ℕ → ℕ
count_of t q = client_word t.clients q count_field

abbrev pub mask_of : Tables → ℕ → ℕ
mask_of t q = client_word t.clients q mask_field

abbrev pub tag_of : Tables → ℕ → ℕ
tag_of t q = client_word t.clients q tag_field

-- the place of the record of its transaction in progress
abbrev pub record_of : Tables → ℕ → ℕ
record_of t q = client_word t.clients q record_field

abbrev pub received_of : Tables → ℕ → ℕ → ℕ
received_of t q i = client_word t.clients q (received_field + i)

-- the tag that a client keeps for a server
abbrev pub kept_tag_of : Tables → ℕ → ℕ → ℕ
kept_tag_of t q i = client_word t.clients q (tags_field + i)

-- the badge that it stores for a server
abbrev pub kept_badge_of : Tables → ℕ → ℕ → ℕ
kept_badge_of t q i = client_word t.clients q (badges_field + i)

-- the setpoint that it has of a server
abbrev pub setpoint_of : Tables → ℕ → ℕ → ℕ
setpoint_of t q i = client_word t.clients q (setpoints_field + i)

-- the badge of its WRITE, and the word of the key that it asks a server for
abbrev pub write_badge_of : Tables → ℕ → ℕ
write_badge_of t q = client_word t.clients q write_badge_field

abbrev pub asked_of : Tables → ℕ → ℕ → ℕ
asked_of t q i = client_word t.clients q (asked_field + i)

-- what a link holds
abbrev pub content_at : Tables → ℕ → ℕ → Content
content_at t q i = (link_at t.links q i).content
