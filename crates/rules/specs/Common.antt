-- What several steps share.
use Rattle.std.specs.Prelude.{ℕ, ◌+◌, Bool, not, List, set}
use Rattle.ranges.specs.All.{any_below}
use Rattle.keys.specs.declared.Key.{Key}
use Rattle.keys.specs.Keys.{opening}
use Rattle.tables.specs.Layout.{step_field, count_at, put_client_word, state_field, mask_field, record_field, put_record_word, tag_of_record, end_of_record, put_begun}
use Rattle.tables.specs.Links.{targets, link_at, is_empty}
use Rattle.tables.specs.Tables.{Tables, step_of}
use Rattle.tables.specs.declared.links.Content.{Content}
use Rattle.tables.specs.declared.links.Content.TheVariants.{Request, Reply}

-- "States: 0 idle, 1 writing setpoints, 2 waiting for its tag, 3 (B only) asking the head, 4 (A, B) asking for setpoints, 5 (C only) asking all."
abbrev pub idle : ℕ
idle = 0

abbrev pub writing : ℕ
writing = 1

abbrev pub entering : ℕ
entering = 2

abbrev pub asking_keys : ℕ
asking_keys = 3

abbrev pub asking_setpoints : ℕ
asking_setpoints = 4

abbrev pub asking_all : ℕ
asking_all = 5

-- "Target 16 means the head."
abbrev pub coordinator : ℕ
coordinator = 16

-- A message carries a key and a number, or one of them, or neither: what it does not carry is written as 0.
abbrev pub request : Key → ℕ → Content
request key number = Request (record { key = key; number = number; badge = 0 })

-- a reply carries no key
abbrev pub reply : ℕ → Content
reply number = Reply (record { key = opening; number = number; badge = 0 })

-- "Every WRITE carries a 16-bit badge number": a set request and a got reply have it beside the setpoint
abbrev pub set_request : Key → ℕ → ℕ → Content
set_request key badge setpoint = Request (record { key = key; number = setpoint; badge = badge })

abbrev pub got_reply : ℕ → ℕ → Content
got_reply badge setpoint = Reply (record { key = opening; number = setpoint; badge = badge })

-- "The opening is step 1; each accepted step adds 1."
abbrev pub next_step : Tables → ℕ
next_step t = step_of t + 1

abbrev pub counted : List ℕ → List ℕ
counted counts = set counts step_field (count_at counts step_field + 1)

-- a link of the client, or some link of it, holds a request or a reply
abbrev pub filled : List ℕ → ℕ → ℕ → Bool
filled links q i = not (is_empty (link_at links q i).content)

abbrev pub pending : List ℕ → ℕ → Bool
pending links q = any_below (filled links q) targets

-- a begin: "Records stand in order of begin." The record in the next place, with no tag and no end; one transaction of its kind more, one step more.
abbrev pub begun_counts : ℕ → List ℕ → List ℕ
begun_counts field counts = set (set counts field (count_at counts field + 1)) step_field (count_at counts step_field + 1)

abbrev pub begun_records : ℕ → List ℕ → ℕ → ℕ → ℕ → List ℕ → List ℕ
begun_records field counts q number badge records = put_begun records (count_at counts field) q number (count_at counts step_field + 1) badge

-- "A begin stores the mask"; the client is in a state, and its record is at a place
abbrev pub started_client : ℕ → ℕ → ℕ → ℕ → List ℕ → List ℕ
started_client state mask place q clients = put_client_word (put_client_word (put_client_word clients q state_field state) q mask_field mask) q record_field place

-- an end: the step number goes into the record; "a READ's [tag is recorded] at its end"
abbrev pub ended_record : ℕ → ℕ → List ℕ → List ℕ
ended_record place step records = put_record_word records place end_of_record step

abbrev pub tagged_record : ℕ → ℕ → List ℕ → List ℕ
tagged_record place tag records = put_record_word records place tag_of_record tag
