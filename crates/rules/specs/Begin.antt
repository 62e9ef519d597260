-- "Begin a WRITE" and "Begin a READ": what an accepted begin changes.
use Rattle.std.specs.Prelude.{ℕ, ◌+◌, cond, List, get_or, eqb}
use Rattle.ranges.specs.Turns.{turns}
use Rattle.ranges.specs.Picked.{picked}
use Rattle.keys.specs.declared.Key.{Key}
use Rattle.keys.specs.Keys.{key_of, opening}
use Rattle.keys.specs.Masks.{has_server}
use Rattle.coordinator.specs.Latest.{latest_key, latest_word, latest_tag_at}
use Rattle.tables.specs.Layout.{writes_field, reads_field, count_field, setpoints_field, tags_field, write_badge_field, asked_field, put_client_word}
use Rattle.tables.specs.Links.{put_link}
use Rattle.tables.specs.Tables.{Tables, tables_of, method_of, servers_of, writes_of, reads_of, count_of}
use Rattle.rules.specs.Words.{every, kept_words}
use Rattle.rules.specs.Common.{writing, asking_keys, asking_all, coordinator, request, set_request, begun_counts, begun_records}
use Rattle.rules.specs.Common.{started_client}

-- "a WRITE also [stores] its k setpoints"
abbrev pub stored_setpoints : ℕ → List ℕ → ℕ → List ℕ → List ℕ
stored_setpoints q setpoints k clients = kept_words setpoints_field every (λ i. get_or setpoints i 0) q k clients

-- "a request to each masked station"; "Every WRITE carries a 16-bit badge number"
abbrev pub send_set : ℕ → Key → ℕ → List ℕ → ℕ → List ℕ → List ℕ
send_set q key badge setpoints i links = put_link links q i (set_request key badge (get_or setpoints i 0))

abbrev pub sent_sets : ℕ → ℕ → Key → ℕ → List ℕ → ℕ → List ℕ → List ℕ
sent_sets q mask key badge setpoints k links = turns (picked (has_server mask) (send_set q key badge setpoints)) k links

-- "A panel now also keeps its WRITE's badge"
abbrev pub started_writer : ℕ → ℕ → ℕ → ℕ → ℕ → List ℕ → List ℕ
started_writer mask place count badge q clients =
    put_client_word (put_client_word (started_client writing mask place q clients) q count_field count) q write_badge_field badge

-- "Begin a WRITE: next count; a request to each masked station; state 1."
abbrev pub next_count : Tables → ℕ → ℕ
next_count t q = count_of t q + 1

unfoldable pub begun_write : ℕ → ℕ → ℕ → List ℕ → Tables → Tables
begun_write q mask badge setpoints t =
    tables_of
    (begun_counts writes_field t.counts)
    (stored_setpoints q setpoints (servers_of t) (started_writer mask (writes_of t) (next_count t q) badge q t.clients))
    (sent_sets q mask (key_of (next_count t q) q) badge setpoints (servers_of t) t.links)
    t.keys t.values t.log
    (begun_records writes_field t.counts q (next_count t q) badge t.writes)
    t.reads

-- "then ask each masked station for its key": the key of the station at a tag
abbrev pub send_get : ℕ → List ℕ → ℕ → ℕ → List ℕ → List ℕ
send_get q log tag i links = put_link links q i (request (latest_key log i tag) 0)

abbrev pub sent_gets : ℕ → ℕ → List ℕ → ℕ → ℕ → List ℕ → List ℕ
sent_gets q mask log tag k links = turns (picked (has_server mask) (send_get q log tag)) k links

-- "Under A and B a panel keeps the wanted stations' tags while it asks."
abbrev pub kept_tags : ℕ → ℕ → List ℕ → ℕ → ℕ → List ℕ → List ℕ
kept_tags q mask log tag k clients = kept_words tags_field (has_server mask) (latest_tag_at log tag) q k clients

-- "and, in state 4, the keys it asks for, so that it can send them again"
abbrev pub kept_keys : ℕ → ℕ → List ℕ → ℕ → ℕ → List ℕ → List ℕ
kept_keys q mask log tag k clients = kept_words asked_field (has_server mask) (latest_word log tag) q k clients

-- what a client keeps while it asks: of each wanted station the tag, and the key
abbrev pub kept_asking : ℕ → ℕ → List ℕ → ℕ → ℕ → List ℕ → List ℕ
kept_asking q mask log tag k clients = kept_keys q mask log tag k (kept_tags q mask log tag k clients)

-- a request that carries nothing: which keys, get all, get log
abbrev pub send_ask : ℕ → ℕ → List ℕ → List ℕ
send_ask q i links = put_link links q i (request opening 0)

abbrev pub sent_asks : ℕ → ℕ → ℕ → List ℕ → List ℕ
sent_asks q mask k links = turns (picked (has_server mask) (send_ask q)) k links

-- what a READ changes in the client's row and its links, by method
pub record Asking : Type 0 where
  pub clients : List ℕ
  pub links : List ℕ

abbrev pub asking : List ℕ → List ℕ → Asking
asking clients links = record { clients = clients; links = links }

-- "B: ask the head"
abbrev pub asking_by_b : ℕ → ℕ → Tables → Asking
asking_by_b q mask t = asking (started_client asking_keys mask (reads_of t) q t.clients) (send_ask q coordinator t.links)

-- "C: ask all masked stations and the head together"
abbrev pub asking_by_c : ℕ → ℕ → Tables → Asking
asking_by_c q mask t = asking (started_client asking_all mask (reads_of t) q t.clients) (send_ask q coordinator (sent_asks q mask (servers_of t) t.links))

abbrev pub asking_by : ℕ → ℕ → ℕ → Tables → Asking
asking_by method q mask t = cond (eqb method 2) (asking_by_b q mask t) (asking_by_c q mask t)

abbrev pub begun_read_with : ℕ → ℕ → Asking → Tables → Tables
begun_read_with q mask a t =
    tables_of
    (begun_counts reads_field t.counts)
    a.clients
    a.links
    t.keys t.values t.log t.writes
    (begun_records reads_field t.counts q mask 0 t.reads)

unfoldable pub begun_read : ℕ → ℕ → Tables → Tables
begun_read q mask t = begun_read_with q mask (asking_by (method_of t) q mask t) t
