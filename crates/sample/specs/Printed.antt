-- Document 01's sample computes to what document 01 prints.
use Rattle.std.specs.Prelude.{refl}
use mathlib.Core.List.{flat_map}
use Rattle.ranges.specs.All.{all_below, any_below}
use Rattle.ranges.specs.Sum.{sum_below}
use Rattle.ranges.specs.First.{first_from}
use Rattle.ranges.specs.Last.{last_below}
use Rattle.ranges.specs.Turns.{turns}
use Rattle.ranges.specs.Inserted.{inserted}
use Rattle.tables.specs.Links.{link_at, put_link}
use Rattle.server.specs.Held.{appended}
use Rattle.coordinator.specs.Log as log
use Rattle.rules.specs.Begin.{begun_write, begun_read}
use Rattle.rules.specs.Request.{on_new_set, on_set, on_new_enter, on_enter, on_which_keys, on_get, on_get_all, on_request_in, request_delivered}
use Rattle.rules.specs.Reply.{on_set_done, on_entered, on_keys, on_got, on_all, on_reply_in, reply_delivered}
use Rattle.soundness.specs.Sound.{long_enough, press_fits, scalars_sound, key_in_range, server_sound, entry_sound, log_sound, state_allowed, uses}
use Rattle.soundness.specs.Sound.{request_sound, reply_sound, content_sound, link_sound, received_sound, client_sound, write_sound, read_sound}
use Rattle.soundness.specs.Sound.{open_sound, records_sound, sound}
use Rattle.refusals.specs.Refusals.{open_refusal, write_refusal, read_refusal, delivery_refusal}
use Rattle.refusals.specs.Steps as store
use Rattle.listing.specs.Register.{places_below, passing, inserted_all, listed_to}
use Rattle.schedule.specs.Lines.{lines_of}
use Rattle.schedule.specs.Numbers.{digit_of, digit_head, read_on, number_of, spaced_of, numbers_behind}
use Rattle.schedule.specs.Decimal.{digits, spaced_all}
use Rattle.schedule.specs.Steps.{step_of}
use Rattle.playing.specs.Played.{played, answers_from}
use Rattle.register_text.specs.Text.{register_printed}
use Rattle.texts.specs.Text.{left_by_lines, print_of}
use Rattle.sample.specs.Sample.{text, answers, lines, zeros, SamplePrinted}

pub sample_printed : SamplePrinted
unfolding text answers lines zeros left_by_lines print_of lines_of digit_of digit_head read_on number_of spaced_of numbers_behind digits spaced_all
    step_of played answers_from register_printed flat_map places_below passing inserted inserted_all listed_to store.open' store.begin_write
    store.begin_read store.deliver_request store.deliver_reply open_refusal write_refusal read_refusal delivery_refusal long_enough press_fits turns
    sound scalars_sound key_in_range server_sound entry_sound log_sound state_allowed uses request_sound reply_sound content_sound link_sound
    received_sound client_sound write_sound read_sound open_sound records_sound all_below any_below sum_below link_at put_link first_from last_below
    appended log.entered begun_write begun_read on_new_set on_set on_new_enter on_enter on_which_keys on_get on_get_all on_request_in request_delivered
    on_set_done on_entered on_keys on_got on_all on_reply_in reply_delivered
sample_printed = refl
