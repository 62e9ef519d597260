-- Tables to play on, document 01's sample as a list of steps, and two READs of one tag: their order in the row, computed. The crate
-- `computed_runs` has the rows of the sample and of document 02's lists of steps.
use Rattle.std.specs.Prelude.{ℕ, ◌*◌, ◌≡◌, refl, List, [], ◌∷◌, ◌++◌, replicate}
use Rattle.ranges.specs.All.{all_below, any_below}
use Rattle.ranges.specs.Sum.{sum_below}
use Rattle.ranges.specs.First.{first_from}
use Rattle.ranges.specs.Last.{last_below}
use Rattle.ranges.specs.Turns.{turns}
use Rattle.ranges.specs.Inserted.{inserted}
use Rattle.tables.specs.Layout.{count_words, client_width, server_places, value_width, log_places, entry_width, record_places, record_width}
use Rattle.tables.specs.Links.{targets, link_width, link_at, put_link}
use Rattle.tables.specs.Tables.{Tables, tables_of}
use Rattle.server.specs.Held.{appended}
use Rattle.coordinator.specs.Log as log
use Rattle.rules.specs.declared.Delivered.{Delivered}
use Rattle.rules.specs.declared.Arrival.TheVariants.{Read}
use Rattle.rules.specs.Begin.{begun_write, begun_read}
use Rattle.rules.specs.Request.{on_set, on_new_set, on_enter, on_new_enter, on_which_keys, on_get, on_get_all, on_request_in, request_delivered}
use Rattle.rules.specs.Reply.{on_set_done, on_entered, on_keys, on_got, on_all, on_reply_in, reply_delivered}
use Rattle.soundness.specs.Sound.{long_enough, press_fits, scalars_sound, key_in_range, server_sound, entry_sound, log_sound, state_allowed, uses}
use Rattle.soundness.specs.Sound.{request_sound, reply_sound, content_sound, link_sound, received_sound}
use Rattle.soundness.specs.Sound.{client_sound, write_sound, read_sound, open_sound, records_sound, sound}
use Rattle.refusals.specs.Refusals.{open_refusal, write_refusal, read_refusal, delivery_refusal}
use Rattle.refusals.specs.Steps as store
use Rattle.refusals.specs.Former.{formerly_begun_read, former_open_refusal, former_write_refusal, former_read_refusal, former_open}
use Rattle.refusals.specs.Former.{former_begin_write, former_begin_read}
use Rattle.claim.specs.Steps.{Step, beginning-write, beginning-read, request, reply, run}
use Rattle.claim.specs.Former.{play_formerly}
use Rattle.claim.specs.History.{Transaction, value_shown, changed, read_of, opened_with, history}
use Rattle.claim.specs.Row.{reads_of, row_to, row}

-- tables just long enough for two clients and two servers, all zero
unfoldable pub zeros : Tables
zeros =
    tables_of (replicate count_words 0) (replicate (client_width * 2) 0) (replicate (link_width * (targets * 2)) 0)
    (replicate (server_places * 2) 0) (replicate (value_width * (server_places * 2)) 0) (replicate (entry_width * log_places) 0)
    (replicate (record_width * record_places) 0) (replicate (record_width * record_places) 0)

unfoldable pub start : Tables
start = (store.open' 2 2 2 (1200 ∷ 30 ∷ []) zeros).tables

-- the sample's lines behind the opening
unfoldable pub sample : List Step
sample =
    beginning-write 0 3 0 (1800 ∷ 45 ∷ []) ∷ request 0 0 ∷ beginning-read 1 3 ∷ request 1 16 ∷ request 0 1 ∷ reply 0 0 ∷ reply 0 1 ∷
    request 0 16 ∷
    reply 1 16 ∷
    request 1 0 ∷ reply 1 0 ∷ request 1 1 ∷ reply 1 1 ∷ reply 0 16 ∷ []

-- an answer that shows the setpoints of two servers, and the tags and badges that they come from
abbrev pub shows : ℕ → List ℕ → List ℕ → List ℕ → Delivered
shows tag setpoints tags badges =
    record { arrival = Read tag; setpoints = setpoints ++ replicate 14 0; tags = tags ++ replicate 14 0; badges = badges ++ replicate 14 0 }

-- A's runs open and begin by the former rules, which open and begin those of B and C as today's do.
unfoldable pub start_by : ℕ → Tables
start_by method = (former_open method 2 2 (1200 ∷ 30 ∷ []) zeros).tables

unfoldable pub row_by : ℕ → List Step → List Transaction
row_by method steps = row (history (run play_formerly steps (start_by method)) (opened_with method (1200 ∷ 30 ∷ [])))

-- "READs of one tag in order of begin step": by B, client 0 begins a READ of server 0 and then client 1 another, which ends first.
unfoldable pub later_first : List Step
later_first =
    beginning-read 0 1 ∷ beginning-read 1 1 ∷
    request 1 16 ∷ reply 1 16 ∷ request 1 0 ∷ reply 1 0 ∷
    request 0 16 ∷ reply 0 16 ∷ request 0 0 ∷ reply 0 0 ∷ []

-- each shows the opening's 1200
abbrev pub read_opening : ℕ → ℕ → ℕ → Transaction
read_opening client begin end = read_of client 1 (value_shown (shows 0 (1200 ∷ 0 ∷ []) (0 ∷ 0 ∷ []) (0 ∷ 0 ∷ []))) 0 begin end 4 0

-- begun at steps 0 and 1, ended at steps 9 and 5
pub reads_by-begin : row_by 2 later_first ≡ read_opening 0 0 9 ∷ read_opening 1 1 5 ∷ []
unfolding formerly_begun_read former_open_refusal former_write_refusal former_read_refusal former_open former_begin_write former_begin_read
    start_by row_by later_first zeros changed inserted reads_of row_to store.open' store.begin_write
    store.begin_read store.deliver_request store.deliver_reply open_refusal write_refusal read_refusal delivery_refusal long_enough press_fits
    turns sound scalars_sound key_in_range server_sound entry_sound log_sound state_allowed uses request_sound reply_sound content_sound link_sound
    received_sound client_sound write_sound read_sound open_sound records_sound all_below any_below sum_below link_at put_link first_from last_below
    appended log.entered begun_write begun_read on_set on_new_set on_enter on_new_enter on_which_keys on_get on_get_all on_request_in request_delivered
    on_set_done on_entered on_keys on_got on_all on_reply_in reply_delivered
reads_by-begin = refl
