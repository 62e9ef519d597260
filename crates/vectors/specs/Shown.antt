-- Every starred card computes.
use Rattle.std.specs.Prelude.{refl}
use Rattle.ranges.specs.All.{all_below, any_below}
use Rattle.ranges.specs.Sum.{sum_below}
use Rattle.ranges.specs.First.{first_from}
use Rattle.ranges.specs.Last.{last_below}
use Rattle.ranges.specs.Turns.{turns}
use Rattle.tables.specs.Links.{link_at, put_link}
use Rattle.server.specs.Held.{appended}
use Rattle.coordinator.specs.Log.{entered}
use Rattle.coordinator.specs.Cards.{log_card}
use Rattle.rules.specs.Begin.{begun_write, begun_read}
use Rattle.rules.specs.Request.{on_set, on_new_set, on_enter, on_new_enter, on_which_keys, on_get, on_get_all, on_request_in, request_delivered}
use Rattle.rules.specs.Reply.{on_set_done, on_entered, on_keys, on_got, on_all, on_reply_in, reply_delivered}
use Rattle.soundness.specs.Sound.{long_enough, press_fits, scalars_sound, key_in_range, server_sound, entry_sound, log_sound, state_allowed, uses}
use Rattle.soundness.specs.Sound.{request_sound, reply_sound, content_sound, link_sound, received_sound, client_sound, write_sound, read_sound}
use Rattle.soundness.specs.Sound.{open_sound, records_sound, sound}
use Rattle.refusals.specs.Refusals.{open_refusal, write_refusal, read_refusal, delivery_refusal}
use Rattle.refusals.specs.Steps.{open', begin_write, begin_read, deliver_request, deliver_reply}
use Rattle.frames.specs.Vectors as frame
use Rattle.vectors.specs.Presses.{blank, opened, after, busy, overtaken, swapped}
use Rattle.vectors.specs.Cards.{Cards}

pub cards : Cards
unfolding blank opened after busy overtaken swapped open' begin_write begin_read deliver_request deliver_reply open_refusal write_refusal
    read_refusal delivery_refusal long_enough press_fits turns sound scalars_sound key_in_range server_sound entry_sound log_sound state_allowed
    uses request_sound reply_sound content_sound link_sound received_sound client_sound write_sound read_sound open_sound records_sound all_below
    any_below sum_below link_at put_link first_from last_below appended entered begun_write begun_read on_set on_new_set on_enter on_new_enter
    on_which_keys on_get on_get_all on_request_in request_delivered on_set_done on_entered on_keys on_got on_all on_reply_in reply_delivered
cards =
    record {
      frame-written = (frame.cards).written;
      frame-read = (frame.cards).read_back;
      last_byte_01 = (frame.cards).last_byte_01;
      another_00 = (frame.cards).another_00;
      no_bytes = (frame.cards).no_bytes;
      one-client = refl;
      two_clients = refl;
      write-mask_4 = refl;
      write-mask_3 = refl;
      read-mask_4 = refl;
      read-mask_3 = refl;
      write_while-busy = refl;
      read_while-busy = refl;
      key_of-server_0 = log_card.0;
      key_of-server_1 = log_card.1;
      overtaken-steps = refl;
      overtaken-tag = refl;
      swapped-steps = refl;
      swapped-tag = refl;
      swapped_choice = refl;
    }
