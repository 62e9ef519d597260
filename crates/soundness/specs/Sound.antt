-- "Sound tables", condition by condition, in document 01's order. A station is a server, a panel a client, the head the coordinator.
use Rattle.std.specs.Prelude.{ℕ, ◌*◌, ◌%◌, ◌^◌, Bool, true, false, cond, ◌&&◌, ◌||◌, List, length, eqb, leb, ltb}
use Rattle.ranges.specs.All.{all_below}
use Rattle.ranges.specs.Sum.{sum_below, count_below}
use Rattle.keys.specs.Keys.{key_word, opening}
use Rattle.keys.specs.Masks.{has_server, mask_within}
use Rattle.tables.specs.Rows.{word_at}
use Rattle.tables.specs.Layout.{last_step, count_words, client_width, server_places, value_width, log_places, entry_width, record_places}
use Rattle.tables.specs.Layout.{record_width, version_word, version_badge, entry_mask, record_word, client_of_record, number_of_record, tag_of_record}
use Rattle.tables.specs.Layout.{end_of_record, badge_of_record}
use Rattle.tables.specs.Links.{targets, link_width, link_row, is_empty}
use Rattle.tables.specs.Tables.{Tables, method_of, servers_of, clients_of, step_of, entries_of, writes_of, reads_of, held_of, state_of, count_of}
use Rattle.tables.specs.Tables.{mask_of, tag_of, record_of, received_of, kept_tag_of, kept_badge_of, write_badge_of, asked_of, content_at}
use Rattle.tables.specs.declared.links.Content.{Content}
use Rattle.tables.specs.declared.links.Content.TheVariants.{Nothing, Request, Reply, Lost}
use Rattle.rules.specs.Common.{idle, writing, entering, asking_keys, asking_setpoints, asking_all, coordinator, pending}
use Rattle.rules.specs.Open.{all_servers}
pub use Rattle.rules.specs.Request.{holding}

-- "Long enough (256 versions for each of k stations, 256 log entries, 255 records of each kind, p panels with their links)"
unfoldable pub long_enough : ℕ → ℕ → Tables → Bool
long_enough k p t =
    leb count_words (length t.counts)
    && leb (client_width * p) (length t.clients)
    && leb (link_width * (targets * p)) (length t.links)
    && leb (server_places * k) (length t.keys)
    && leb (value_width * (server_places * k)) (length t.values)
    && leb (entry_width * log_places) (length t.log)
    && leb (record_width * record_places) (length t.writes)
    && leb (record_width * record_places) (length t.reads)

abbrev pub between : ℕ → ℕ → ℕ → Bool
between low n high = leb low n && leb n high

-- "k from 1 to 16", "p from 1 to 16", "Method 1 is A, 2 is B, 3 is C. Under 1 … p is at least 2."
unfoldable pub press_fits : ℕ → ℕ → ℕ → Bool
press_fits method k p = between 1 method 3 && between 1 k 16 && between (cond (eqb method 1) 2 1) p 16

-- "every number in its range": the scalars. "step number below 2^32".
unfoldable pub scalars_sound : Tables → Bool
scalars_sound t =
    press_fits (method_of t) (servers_of t) (clients_of t)
    && between 1 (step_of t) last_step
    && between 1 (entries_of t) log_places
    && leb (writes_of t) record_places
    && leb (reads_of t) record_places

-- a key's word: "the opening's own key is (0, 0), the only key of count 0"; else a count of 1 to 255 and a client below p
unfoldable pub key_in_range : ℕ → ℕ → Bool
key_in_range p word = eqb word 0 || (between 256 word 65535 && ltb (word % 256) p)

-- "a 16-bit badge number"
abbrev pub badge_fits : ℕ → Bool
badge_fits word = ltb word 65536

-- "each station's first version bears the opening's key"
unfoldable pub server_sound : Tables → ℕ → Bool
server_sound t i =
    between 1 (held_of t i) server_places
    && eqb (version_word t.keys i 0) (key_word opening)
    && all_below (λ place. key_in_range (clients_of t) (version_word t.keys i place)) (held_of t i)
    && all_below (λ place. badge_fits (version_badge t.values i place)) (held_of t i)

-- an entry of the log: "every number in its range"
unfoldable pub entry_sound : Tables → ℕ → Bool
entry_sound t tag = key_in_range (clients_of t) (word_at entry_width t.log tag 0) && mask_within (entry_mask t.log tag) (servers_of t)

-- "tag 0 holds it with all k stations"
unfoldable pub log_sound : Tables → Bool
log_sound t =
    eqb (word_at entry_width t.log 0 0) (key_word opening)
    && eqb (entry_mask t.log 0) (all_servers (servers_of t))
    && all_below (entry_sound t) (entries_of t)

-- "A panel's state is one its method and part allow."
abbrev pub is_writing : ℕ → Bool
is_writing state = eqb state writing || eqb state entering

abbrev pub is_reading : ℕ → Bool
is_reading state = between asking_keys state asking_all

unfoldable pub state_allowed : ℕ → ℕ → ℕ → Bool
state_allowed method q state =
    eqb state idle
    || cond (eqb method 1) (cond (eqb q 0) (eqb state asking_setpoints) (is_writing state))
    (cond (eqb method 2) (is_writing state || (eqb state asking_keys || eqb state asking_setpoints))
    (is_writing state || eqb state asking_all))

-- "Its links hold only what that state sends or gets back: idle, none; 1 or 4, masked stations only; 2 or 3, exactly the head; 5, masked stations and head only."
unfoldable pub uses : ℕ → ℕ → ℕ → Bool
uses state mask i =
    cond (eqb state writing || eqb state asking_setpoints) (has_server mask i)
    (cond (eqb state entering || eqb state asking_keys) (eqb i coordinator)
    (cond (eqb state asking_all) (has_server mask i || eqb i coordinator) false))

-- a WRITE's own key, as a word: a count of 1 to 255 and the link's client
abbrev pub own_key : ℕ → ℕ → Bool
own_key q word = between 256 word 65535 && eqb (word % 256) q

-- what a request carries, by the state that sent it: a key and a number
unfoldable pub request_sound : ℕ → ℕ → ℕ → ℕ → Tables → Bool
request_sound state q word number t =
    cond (eqb state writing) (own_key q word)
    (cond (eqb state entering) (own_key q word && mask_within number (servers_of t))
    (cond (eqb state asking_setpoints) (key_in_range (clients_of t) word) true))

-- "n, in replies too, no more than is held; a reply's n at least 1"; an entered reply's tag is within the log, from 1
unfoldable pub reply_sound : ℕ → ℕ → ℕ → Tables → Bool
reply_sound state i number t =
    cond (eqb state entering) (leb 1 number && ltb number (entries_of t))
    (cond (eqb state asking_keys || eqb state asking_all) (between 1 number (holding t i)) true)

-- the word of the key on a link
abbrev pub key_on : Tables → ℕ → ℕ → ℕ
key_on t q i = word_at link_width t.links (link_row q i) 1

-- the badge on a link, where it carries one: in a set request, which state 1 sends, and in a got reply, which state 4 gets back
abbrev pub badge_sound : ℕ → ℕ → ℕ → Bool
badge_sound carrier state badge = cond (eqb state carrier) (badge_fits badge) true

-- "A lost link is … sound wherever the panel waits for that link."
unfoldable pub content_sound : Content → ℕ → ℕ → ℕ → Tables → Bool
content_sound Nothing state q i t = true
content_sound (Request w) state q i t =
    uses state (mask_of t q) i && (request_sound state q (key_on t q i) w.number t && badge_sound writing state w.badge)
content_sound (Reply w) state q i t =
    uses state (mask_of t q) i && (reply_sound state i w.number t && badge_sound asking_setpoints state w.badge)
content_sound Lost state q i t = uses state (mask_of t q) i

-- a link's kind is nothing, a request, a reply or lost
unfoldable pub link_sound : Tables → ℕ → ℕ → Bool
link_sound t q i = leb (word_at link_width t.links (link_row q i) 0) 3 && content_sound (content_at t q i) (state_of t q) q i t

-- "a panel's [n] above 0 exactly in state 5 for the masked stations and head whose link is empty"
unfoldable pub received_sound : Tables → ℕ → ℕ → Bool
received_sound t q i =
    cond (eqb (state_of t q) asking_all && (uses (state_of t q) (mask_of t q) i && is_empty (content_at t q i)))
    (between 1 (received_of t q i) (holding t i))
    (eqb (received_of t q i) 0)

-- "in state 4, the keys it asks for": a key in its range for each masked station, since it may be sent again
abbrev pub asks : Tables → ℕ → ℕ → Bool
asks t q i = eqb (state_of t q) asking_setpoints && has_server (mask_of t q) i

abbrev pub asked_sound : Tables → ℕ → ℕ → Bool
asked_sound t q i = cond (asks t q i) (key_in_range (clients_of t) (asked_of t q i)) true

-- "tags within the log": also the one that a client keeps for a server, left over or not; the badge beside it, and the key
abbrev pub kept_sound : Tables → ℕ → ℕ → Bool
kept_sound t q i = ltb (kept_tag_of t q i) (entries_of t) && badge_fits (kept_badge_of t q i) && asked_sound t q i

-- counts, mask, tags and badges in their ranges; "a busy panel has a link not empty"
unfoldable pub client_sound : Tables → ℕ → Bool
client_sound t q =
    state_allowed (method_of t) q (state_of t q)
    && between (cond (is_writing (state_of t q)) 1 0) (count_of t q) 255
    && cond (eqb (state_of t q) idle) (ltb (mask_of t q) (2 ^ servers_of t)) (mask_within (mask_of t q) (servers_of t))
    && ltb (tag_of t q) (entries_of t)
    && badge_fits (write_badge_of t q)
    && all_below (kept_sound t q) (servers_of t)
    && all_below (link_sound t q) targets
    && all_below (received_sound t q) targets
    && (eqb (state_of t q) idle || pending t.links q)

-- the records: client, count or mask, tag, and a WRITE's badge in their ranges
unfoldable pub write_sound : Tables → ℕ → Bool
write_sound t n =
    ltb (record_word t.writes n client_of_record) (clients_of t)
    && between 1 (record_word t.writes n number_of_record) 255
    && ltb (record_word t.writes n tag_of_record) (entries_of t)
    && badge_fits (record_word t.writes n badge_of_record)

unfoldable pub read_sound : Tables → ℕ → Bool
read_sound t n =
    ltb (record_word t.reads n client_of_record) (clients_of t)
    && mask_within (record_word t.reads n number_of_record) (servers_of t)
    && ltb (record_word t.reads n tag_of_record) (entries_of t)

-- a record of a client that has no end
abbrev pub is_open : List ℕ → ℕ → ℕ → Bool
is_open records q n = eqb (record_word records n client_of_record) q && eqb (record_word records n end_of_record) 0

-- "exactly one record without an end, of the kind it is doing, an idle panel none"; the client's row has the place of that record
unfoldable pub open_sound : Bool → List ℕ → ℕ → ℕ → ℕ → Bool
open_sound doing records begun q place =
    cond doing
    (eqb (count_below (is_open records q) begun) 1 && (ltb place begun && is_open records q place))
    (eqb (count_below (is_open records q) begun) 0)

unfoldable pub records_sound : Tables → ℕ → Bool
records_sound t q =
    open_sound (is_writing (state_of t q)) t.writes (writes_of t) q (record_of t q)
    && open_sound (is_reading (state_of t q)) t.reads (reads_of t) q (record_of t q)

-- "all counts together at most 255; … as many WRITE records as all counts together": the WRITEs begun are the counts' sum.
-- "READs begun … equal to those finished plus those in progress; … READ records as READs begun" follows from the records: `reads_balance`.
unfoldable pub sound : Tables → Bool
sound t =
    long_enough (servers_of t) (clients_of t) t
    && scalars_sound t
    && all_below (server_sound t) (servers_of t)
    && log_sound t
    && all_below (client_sound t) (clients_of t)
    && eqb (sum_below (count_of t) (clients_of t)) (writes_of t)
    && all_below (write_sound t) (writes_of t)
    && all_below (read_sound t) (reads_of t)
    && all_below (records_sound t) (clients_of t)
