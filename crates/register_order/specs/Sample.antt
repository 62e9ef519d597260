-- Document 01's sample, played: the register of the tables it leaves and the row of what it tells both compute to the two lines that document 01 prints.
use Rattle.std.specs.Prelude.{◌≡◌, refl, true, false, List, [], ◌∷◌, map}
use Rattle.ranges.specs.All.{all_below, any_below}
use Rattle.ranges.specs.Sum.{sum_below}
use Rattle.ranges.specs.First.{first_from}
use Rattle.ranges.specs.Last.{last_below}
use Rattle.ranges.specs.Turns.{turns}
use Rattle.ranges.specs.Inserted.{inserted}
use Rattle.tables.specs.Links.{link_at, put_link}
use Rattle.tables.specs.Tables.{Tables}
use Rattle.server.specs.Held.{appended}
use Rattle.coordinator.specs.Log as log
use Rattle.rules.specs.Begin.{begun_write, begun_read}
use Rattle.rules.specs.Request.{on_set, on_new_set, on_enter, on_new_enter, on_which_keys, on_get, on_get_all, on_request_in, request_delivered}
use Rattle.rules.specs.Reply.{on_set_done, on_entered, on_keys, on_got, on_all, on_reply_in, reply_delivered}
use Rattle.soundness.specs.Sound.{long_enough, press_fits, scalars_sound, key_in_range, server_sound, entry_sound, log_sound, state_allowed, uses, request_sound, reply_sound, content_sound, link_sound, received_sound, client_sound, write_sound, read_sound, open_sound, records_sound, sound}
use Rattle.refusals.specs.Refusals.{open_refusal, write_refusal, read_refusal, delivery_refusal}
use Rattle.refusals.specs.Steps as store
use Rattle.listing.specs.Register.{places_below, passing, inserted_all, listed_to, register}
use Rattle.listing.specs.Sample as listing
use Rattle.claim.specs.Steps.{Played, play, run, left_by}
use Rattle.claim.specs.History.{changed, opened_with, history}
use Rattle.claim.specs.Row.{reads_of, row_to, row}
use Rattle.claim.specs.Sample.{zeros, start, sample}
use Rattle.listed_order.specs.Order.{Particulars, particulars, described, told, step_numbers}

abbrev played : List Played
played = run play sample start

abbrev left : Tables
left = left_by played start

-- `R 0 1 4 14` and `W 1 0 1 2 15`, the READ with its mask: tag, panel, begin and end
abbrev pub lines : List Particulars
lines = particulars false 0 1 3 4 14 ∷ particulars true 1 0 0 2 15 ∷ []

pub sample-lines : (map (told (step_numbers played [] 1)) (row (history played (opened_with 2 (1200 ∷ 30 ∷ [])))) ≡ lines) × (map (described left) (register left) ≡ lines)
unfolding zeros start sample changed reads_of row_to store.open' store.begin_write store.begin_read store.deliver_request store.deliver_reply
    open_refusal write_refusal read_refusal delivery_refusal long_enough press_fits turns sound scalars_sound key_in_range server_sound entry_sound
    log_sound state_allowed uses request_sound reply_sound content_sound link_sound received_sound client_sound write_sound read_sound open_sound
    records_sound all_below any_below sum_below link_at put_link first_from last_below appended log.entered begun_write begun_read on_set on_new_set
    on_enter on_new_enter on_which_keys on_get on_get_all on_request_in request_delivered on_set_done on_entered on_keys on_got on_all on_reply_in
    reply_delivered places_below passing inserted inserted_all listed_to
sample-lines = (refl, refl)

-- the tables of `listing`'s sample list the same
pub sample-same : map (described left) (register left) ≡ map (described listing.sample) (register listing.sample)
unfolding listing.sample places_below passing inserted inserted_all listed_to
sample-same = sample-lines.1
