-- A list of steps with a refused one, and with every request and every reply lost once: the register and the row agree in every part, and
-- each step has the number that it left in the tables. An edit of what a line or a transaction says is noticed here.
use Rattle.std.specs.Prelude.{◌≡◌, refl, true, List, [], ◌++◌, map}
use Rattle.ranges.specs.All.{all_below, any_below}
use Rattle.ranges.specs.Sum.{sum_below}
use Rattle.ranges.specs.First.{first_from}
use Rattle.ranges.specs.Last.{last_below}
use Rattle.ranges.specs.Turns.{turns}
use Rattle.ranges.specs.Inserted.{inserted}
use Rattle.tables.specs.Links.{link_at, put_link}
use Rattle.tables.specs.Tables.{step_of}
use Rattle.server.specs.Held.{appended}
use Rattle.coordinator.specs.Log as log
use Rattle.rules.specs.Begin.{begun_write, begun_read}
use Rattle.rules.specs.Request.{on_set, on_new_set, on_enter, on_new_enter, on_which_keys, on_get, on_get_all, on_request_in, request_delivered}
use Rattle.rules.specs.Reply.{on_set_done, on_entered, on_keys, on_got, on_all, on_reply_in, reply_delivered}
use Rattle.rules.specs.Loss.{link_lost, sent_in, link_resent}
use Rattle.soundness.specs.Sound.{long_enough, press_fits, scalars_sound, key_in_range, server_sound, entry_sound, log_sound, state_allowed}
use Rattle.soundness.specs.Sound.{uses, request_sound, reply_sound, content_sound, link_sound, received_sound, client_sound, write_sound}
use Rattle.soundness.specs.Sound.{read_sound, open_sound, records_sound, sound}
use Rattle.refusals.specs.Refusals.{open_refusal, write_refusal, read_refusal, delivery_refusal}
use Rattle.refusals.specs.Steps.{open', begin_write, begin_read, deliver_request, deliver_reply, lose, resend}
use Rattle.listing.specs.Register.{places_below, passing, inserted_all, listed_to, register}
use Rattle.claim.specs.Steps.{Step, Played, play, run}
use Rattle.claim.specs.History.{changed}
use Rattle.claim.specs.Row as row
use Rattle.claim.specs.Sample.{zeros}
use Rattle.claim.specs.Broken.{opens}
use Rattle.claim.specs.Lists.{reply_only, lossy_by_b}
use Rattle.listed_order.specs.Order.{step_numbers}
use Rattle.listed_order.specs.Parts.{same, lines, rowed, Computed}

abbrev pub refused_then_lossy : List Step
refused_then_lossy = reply_only ++ lossy_by_b

abbrev played : List Played
played = run play refused_then_lossy (play (opens 2) zeros).tables

pub agrees : Computed register play 2 refused_then_lossy [] ×
    ((same (step_numbers played [] 1) (map (λ x. step_of x.tables) played)).passes ≡ true)
unfolding zeros lines rowed changed row.reads_of row.row_to open' begin_write begin_read deliver_request deliver_reply open_refusal
    write_refusal read_refusal delivery_refusal long_enough press_fits turns sound scalars_sound key_in_range server_sound entry_sound
    log_sound state_allowed uses request_sound reply_sound content_sound link_sound received_sound client_sound write_sound read_sound
    open_sound records_sound all_below any_below sum_below link_at put_link first_from last_below appended log.entered begun_write
    begun_read on_set on_new_set on_enter on_new_enter on_which_keys on_get on_get_all on_request_in request_delivered on_set_done on_entered on_keys on_got
    on_all on_reply_in reply_delivered link_lost sent_in link_resent lose resend places_below passing inserted inserted_all listed_to
agrees = (refl, refl)
