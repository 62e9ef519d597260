-- Runs of conditions of `Sound` as one function of the check decides them.
use Rattle.std.specs.Prelude.{ℕ, ◌+◌, ◌*◌, ◌/◌, ◌%◌, ◌^◌, Bool, cond, not, ◌&&◌, eqb, leb, ltb}
use Rattle.ranges.specs.All.{all_below}
use Rattle.ranges.specs.Sum.{sum_below}
use Rattle.keys.specs.Keys.{key_word, opening}
use Rattle.keys.specs.Masks.{mask_within}
use Rattle.tables.specs.Rows.{word_at}
use Rattle.tables.specs.Layout.{last_step, log_places, record_places, entry_width, entry_mask}
use Rattle.tables.specs.Links.{link_width, link_row, is_empty}
use Rattle.tables.specs.Tables.{Tables, method_of, servers_of, clients_of, step_of, entries_of, writes_of, reads_of, state_of, count_of, mask_of}
use Rattle.tables.specs.Tables.{tag_of, record_of, write_badge_of, content_at}
use Rattle.rules.specs.Common.{idle, asking_all}
use Rattle.rules.specs.Open.{all_servers}
use Rattle.soundness.specs.Sound.{between, badge_fits, server_sound, log_sound, is_writing, is_reading, state_allowed, uses, kept_sound, client_sound}
use Rattle.soundness.specs.Sound.{open_sound, write_sound, read_sound, records_sound}

-- the scalars behind `press_fits`
abbrev pub progress_sound : Tables → Bool
progress_sound t = between 1 (step_of t) last_step && between 1 (entries_of t) log_places && leb (writes_of t) record_places && leb (reads_of t) record_places

-- the parts of `key_in_range`, each one comparison: 16 bits and a client at most the last, since a word above 16 bits is above every client;
-- and a count, unless it is the opening's key
abbrev pub key_owned : ℕ → ℕ → Bool
key_owned last word = leb (word / 65536 * 65536 + word % 256) last

abbrev pub key_counted : ℕ → Bool
key_counted word = not (between 1 word 255)

-- what stands at tag 0
abbrev pub first_entry_sound : Tables → Bool
first_entry_sound t = eqb (word_at entry_width t.log 0 0) (key_word opening) && eqb (entry_mask t.log 0) (all_servers (servers_of t))

-- the number and the badge on a link
abbrev pub number_on : Tables → ℕ → ℕ → ℕ
number_on t q i = word_at link_width t.links (link_row q i) 2

abbrev pub badge_on : Tables → ℕ → ℕ → ℕ
badge_on t q i = word_at link_width t.links (link_row q i) 3

-- the first conditions of `client_sound`: count, mask, tags and badges; all that its row alone decides
abbrev pub count_sound : Tables → ℕ → Bool
count_sound t q = between (cond (is_writing (state_of t q)) 1 0) (count_of t q) 255

abbrev pub mask_sound : Tables → ℕ → Bool
mask_sound t q = cond (eqb (state_of t q) idle) (ltb (mask_of t q) (2 ^ servers_of t)) (mask_within (mask_of t q) (servers_of t))

abbrev pub tag_sound : Tables → ℕ → Bool
tag_sound t q = ltb (tag_of t q) (entries_of t)

abbrev pub row_sound : Tables → ℕ → Bool
row_sound t q =
    state_allowed (method_of t) q (state_of t q) && count_sound t q && mask_sound t q && tag_sound t q && badge_fits (write_badge_of t q)
    && all_below (kept_sound t q) (servers_of t)

-- the test of `received_sound`
abbrev pub expects : Tables → ℕ → ℕ → Bool
expects t q i = eqb (state_of t q) asking_all && (uses (state_of t q) (mask_of t q) i && is_empty (content_at t q i))

-- the two conditions of `records_sound`
abbrev pub write_open_sound : Tables → ℕ → Bool
write_open_sound t q = open_sound (is_writing (state_of t q)) t.writes (writes_of t) q (record_of t q)

abbrev pub read_open_sound : Tables → ℕ → Bool
read_open_sound t q = open_sound (is_reading (state_of t q)) t.reads (reads_of t) q (record_of t q)

-- the last conditions of `sound`: those on counts and records
abbrev pub counts_sound : Tables → Bool
counts_sound t = eqb (sum_below (count_of t) (clients_of t)) (writes_of t)

abbrev pub history_sound : Tables → Bool
history_sound t = counts_sound t && all_below (write_sound t) (writes_of t) && all_below (read_sound t) (reads_of t) && all_below (records_sound t) (clients_of t)

-- the conditions on the servers' versions and the log
abbrev pub stores_sound : Tables → Bool
stores_sound t = all_below (server_sound t) (servers_of t) && log_sound t

-- all conditions behind the lengths and the scalars
abbrev pub rest_sound : Tables → Bool
rest_sound t = stores_sound t && all_below (client_sound t) (clients_of t) && counts_sound t && all_below (write_sound t) (writes_of t) && all_below (read_sound t) (reads_of t) && all_below (records_sound t) (clients_of t)
