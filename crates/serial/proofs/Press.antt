-- The tables as the proof sees them: what all clients share, and each client with its row and its links, as functions of their places.
use Prim.Native.Nat.{ℕ, ◌+◌}
use mathlib.Core.Bool.{Bool, true, false, cond}
use mathlib.Core.Option.{Option}
use mathlib.Core.List.{List}
use lib.Dec.{ltb}
use Rattle.ranges.specs.Sum.{sum_below}
use Rattle.keys.specs.declared.Key.{Key}
use Rattle.keys.specs.Masks.{has_server}
use Rattle.coordinator.specs.Latest.{latest_key}
use Rattle.tables.specs.Layout.{client_width, client_word, state_field, count_field, mask_field, tag_field, setpoints_field, received_field}
use Rattle.tables.specs.Layout.{tags_field, badges_field, write_badge_field, asked_field}
use Rattle.tables.specs.Links.{targets, link_at}
use Rattle.tables.specs.Tables.{Tables, method_of, servers_of, step_of, entries_of, writes_of, reads_of, held_of}
use Rattle.tables.specs.declared.links.Contents.{Contents}
use Rattle.tables.specs.declared.links.Content.{Content}
use Rattle.tables.specs.declared.links.Content.TheVariants.{Nothing, Request, Reply, Lost}
use Rattle.claim.specs.History.{Value, History}
use Rattle.serial.proofs.Versions.{Version, version_of, kept_of, find}
use Rattle.serial.proofs.Entries.{tag_of}
use Rattle.serial.proofs.Owed.{value_in}

-- places from n on count for nothing
unfoldable pub within : {A : Type 0} → ℕ → A → (ℕ → A) → ℕ → A
within n default f i = cond (ltb i n) (f i) default

pub record Shared : Type 0 where
  pub method : ℕ
  pub servers : ℕ
  pub step : ℕ
  pub entries : ℕ
  pub writes : ℕ
  pub reads : ℕ
  pub held : ℕ → ℕ
  pub keys : List ℕ
  pub values : List ℕ
  pub log : List ℕ

-- the same but for the step number and the transactions begun
abbrev pub renumbered : ℕ → ℕ → ℕ → Shared → Shared
renumbered step writes reads s =
    record { method = s.method; servers = s.servers; step = step; entries = s.entries; writes = writes; reads = reads; held = s.held; keys = s.keys; values = s.values; log = s.log }

pub record Client : Type 0 where
  pub row : ℕ → ℕ
  pub link : ℕ → Content

abbrev pub client_of : (ℕ → ℕ) → (ℕ → Content) → Client
client_of row link = record { row = row; link = link }

pub record Press : Type 0 where
  pub shared : Shared
  pub client : ℕ → Client

abbrev pub press_of : Shared → (ℕ → Client) → Press
press_of shared client = record { shared = shared; client = client }

-- the client's words by name
abbrev pub state_in : Client → ℕ
state_in c = c.row state_field

abbrev pub count_in : Client → ℕ
count_in c = c.row count_field

abbrev pub mask_in : Client → ℕ
mask_in c = c.row mask_field

abbrev pub tag_in : Client → ℕ
tag_in c = c.row tag_field

abbrev pub setpoint_in : Client → ℕ → ℕ
setpoint_in c i = c.row (setpoints_field + i)

abbrev pub received_in : Client → ℕ → ℕ
received_in c i = c.row (received_field + i)

-- the badge that it stores with it
abbrev pub badge_in : Client → ℕ → ℕ
badge_in c i = c.row (badges_field + i)

-- the tag that it keeps of a server
abbrev pub kept_tag_in : Client → ℕ → ℕ
kept_tag_in c i = c.row (tags_field + i)

-- the badge of its WRITE, and the word of the key that it asks a server for
abbrev pub write_badge_in : Client → ℕ
write_badge_in c = c.row write_badge_field

abbrev pub asked_in : Client → ℕ → ℕ
asked_in c i = c.row (asked_field + i)

-- the tables seen so
abbrev pub row_of : List ℕ → ℕ → ℕ → ℕ
row_of clients q = within client_width 0 (client_word clients q)

abbrev pub content_in : List ℕ → ℕ → ℕ → Content
content_in links q i = (link_at links q i).content

abbrev pub links_of : List ℕ → ℕ → ℕ → Content
links_of links q = within targets Nothing (content_in links q)

abbrev pub shared_of : Tables → Shared
shared_of t = record { method = method_of t; servers = servers_of t; step = step_of t; entries = entries_of t; writes = writes_of t; reads = reads_of t; held = held_of t; keys = t.keys; values = t.values; log = t.log }

abbrev pub view : Tables → Press
view t = press_of (shared_of t) (λ q. client_of (row_of t.clients q) (links_of t.links q))

-- what a link has still to bring: a request two deliveries, and so a lost one that is sent again; a reply one
abbrev pub weight : Content → ℕ
weight Nothing = 0
weight (Request w) = 2
weight (Reply w) = 1
weight Lost = 2

abbrev pub to_come : (ℕ → Content) → ℕ
to_come link = sum_below (λ i. weight (link i)) targets

-- whether it holds a reply
abbrev pub is_reply : Content → Bool
is_reply Nothing = false
is_reply (Request w) = false
is_reply (Reply w) = true
is_reply Lost = false

-- a request to each server of a mask
unfoldable pub sends : ℕ → (ℕ → Content) → ℕ → Content
sends mask request i = cond (has_server mask i) (request i) Nothing

-- what the clients share, with what the history adds to it
pub record World : Type 0 where
  pub servers : ℕ
  pub held : ℕ → ℕ
  pub lookup : ℕ → Key → ℕ → Option Version
  pub entry : Key → Option ℕ
  pub tags : ℕ
  pub key : ℕ → ℕ → Key
  pub value : ℕ → ℕ → Value

abbrev pub world_of : Shared → ℕ → (ℕ → ℕ → Value) → World
world_of s tags value = record {
  servers = s.servers;
  held = s.held;
  lookup = find s.keys s.values;
  entry = λ key. tag_of s.log key s.entries;
  tags = tags;
  key = λ tag i. latest_key s.log i tag;
  value = value;
}

-- what is kept of the value of server i behind a tag
abbrev pub kept_at : World → ℕ → ℕ → Version
kept_at x tag i = kept_of (x.value tag i)

-- what a message carries of a value, and what a client's row has of it
abbrev pub carried : Contents → Version
carried w = version_of w.badge w.number

abbrev pub stored_in : Client → ℕ → Version
stored_in c i = version_of (badge_in c i) (setpoint_in c i)

abbrev pub world : Press → History → World
world p h = world_of p.shared h.tags (value_in h)
