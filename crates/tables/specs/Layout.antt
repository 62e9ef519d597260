-- Which words each table has: "Parts of a press", and the register's records. A station is a server, a panel a client, target 16 the coordinator.
use Rattle.std.specs.Prelude.{ℕ, ◌+◌, ◌*◌, ◌≤◌, List, [], ◌∷◌, get_or, length}
use Rattle.tables.specs.Rows.{word_at, put_word, put_row}
use Rattle.keys.specs.declared.Key.{Key}
use Rattle.keys.specs.Keys.{key_word, key_at_word}

-- The counts: one row. "Open sets method, k, p", the step number, the log's entries, WRITEs and READs begun, and the versions each server holds.
abbrev pub method_field : ℕ
method_field = 0

abbrev pub servers_field : ℕ
servers_field = 1

abbrev pub clients_field : ℕ
clients_field = 2

abbrev pub step_field : ℕ
step_field = 3

abbrev pub entries_field : ℕ
entries_field = 4

abbrev pub writes_field : ℕ
writes_field = 5

abbrev pub reads_field : ℕ
reads_field = 6

abbrev pub held_field : ℕ
held_field = 7

abbrev pub count_words : ℕ
count_words = 23

-- "any step but an opening at step number 2^32 − 1" is refused
abbrev pub last_step : ℕ
last_step = 4294967295

abbrev pub count_at : List ℕ → ℕ → ℕ
count_at counts field = get_or counts field 0

-- A client's row. "Per panel: state, last count, mask, tag, setpoints and, under C, the n received from each target in this READ".
-- Besides: the place of the record of its transaction in progress, so that a step finds the record at once.
abbrev pub client_width : ℕ
client_width = 87

abbrev pub state_field : ℕ
state_field = 0

abbrev pub count_field : ℕ
count_field = 1

abbrev pub mask_field : ℕ
mask_field = 2

abbrev pub tag_field : ℕ
tag_field = 3

abbrev pub record_field : ℕ
record_field = 4

abbrev pub setpoints_field : ℕ
setpoints_field = 5

abbrev pub received_field : ℕ
received_field = 21

-- "Under A and B a panel keeps the wanted stations' tags while it asks."
abbrev pub tags_field : ℕ
tags_field = 38

-- "a panel stores [the badge] with each wanted setpoint"
abbrev pub badges_field : ℕ
badges_field = 54

-- "A panel now also keeps its WRITE's badge"
abbrev pub write_badge_field : ℕ
write_badge_field = 70

-- "and, in state 4, the keys it asks for, so that it can send them again"
abbrev pub asked_field : ℕ
asked_field = 71

abbrev pub client_word : List ℕ → ℕ → ℕ → ℕ
client_word clients q field = word_at client_width clients q field

abbrev pub put_client_word : List ℕ → ℕ → ℕ → ℕ → List ℕ
put_client_word clients q field v = put_word client_width clients q field v

-- A server's versions: 256 places, keys in one table, badges and setpoints in another. "A station's versions … at most 256".
abbrev pub server_places : ℕ
server_places = 256

abbrev pub version_word : List ℕ → ℕ → ℕ → ℕ
version_word words i place = word_at server_places words i place

abbrev pub put_version_word : List ℕ → ℕ → ℕ → ℕ → List ℕ
put_version_word words i place v = put_word server_places words i place v

-- "Version records hold [the badge] after the key": beside the key's word a row of two, badge and setpoint
abbrev pub value_width : ℕ
value_width = 2

abbrev pub value_row : ℕ → ℕ → ℕ
value_row i place = server_places * i + place

abbrev pub version_badge : List ℕ → ℕ → ℕ → ℕ
version_badge values i place = word_at value_width values (value_row i place) 0

abbrev pub version_setpoint : List ℕ → ℕ → ℕ → ℕ
version_setpoint values i place = word_at value_width values (value_row i place) 1

abbrev pub put_value : List ℕ → ℕ → ℕ → ℕ → ℕ → List ℕ
put_value values i place badge setpoint = put_row value_width values (value_row i place) (badge ∷ setpoint ∷ [])

-- all rows of a server are there
abbrev pub HasValues : List ℕ → ℕ → Type 0
HasValues values i = value_width * value_row i server_places ≤ length values

-- The log. "The log holds (key, mask) at tags 0 to 255".
abbrev pub log_places : ℕ
log_places = 256

abbrev pub entry_width : ℕ
entry_width = 2

abbrev pub entry_word : List ℕ → ℕ → ℕ
entry_word log tag = word_at entry_width log tag 0

abbrev pub entry_key : List ℕ → ℕ → Key
entry_key log tag = key_at_word (entry_word log tag)

abbrev pub entry_mask : List ℕ → ℕ → ℕ
entry_mask log tag = word_at entry_width log tag 1

abbrev pub put_entry : List ℕ → ℕ → Key → ℕ → List ℕ
put_entry log tag key mask = put_row entry_width log tag (key_word key ∷ mask ∷ [])

-- The register's records: "each WRITE's panel, count, tag, begin and end step; each READ's panel, mask, tag, begin, end"; behind them a
-- WRITE's badge, and 0 for a READ.
abbrev pub record_places : ℕ
record_places = 255

abbrev pub record_width : ℕ
record_width = 6

abbrev pub client_of_record : ℕ
client_of_record = 0

abbrev pub number_of_record : ℕ
number_of_record = 1

abbrev pub tag_of_record : ℕ
tag_of_record = 2

abbrev pub begin_of_record : ℕ
begin_of_record = 3

abbrev pub end_of_record : ℕ
end_of_record = 4

abbrev pub badge_of_record : ℕ
badge_of_record = 5

abbrev pub record_word : List ℕ → ℕ → ℕ → ℕ
record_word records n field = word_at record_width records n field

abbrev pub put_record_word : List ℕ → ℕ → ℕ → ℕ → List ℕ
put_record_word records n field v = put_word record_width records n field v

-- a record begun at a step: no tag and no end yet
abbrev pub put_begun : List ℕ → ℕ → ℕ → ℕ → ℕ → ℕ → List ℕ
put_begun records n client number begin badge = put_row record_width records n (client ∷ number ∷ 0 ∷ begin ∷ 0 ∷ badge ∷ [])
