-- Of specs/Wrong: what cites a theorem there that a changed definition can make fail.
use Rattle.std.specs.Prelude.{◌≡◌, refl, List, [], ◌∷◌, ◌++◌, ℕ}
use Rattle.std.proofs.Common.{ap}
use Rattle.ranges.specs.All.{all_below, any_below}
use Rattle.ranges.specs.Sum.{sum_below}
use Rattle.ranges.specs.First.{first_from}
use Rattle.ranges.specs.Last.{last_below}
use Rattle.ranges.specs.Turns.{turns}
use Rattle.ranges.specs.Inserted.{inserted}
use Rattle.tables.specs.Links.{link_at, put_link}
use Rattle.server.specs.Held.{appended}
use Rattle.coordinator.specs.Log as log
use Rattle.rules.specs.Answer.{Ok}
use Rattle.rules.specs.Begin.{begun_write, begun_read}
use Rattle.rules.specs.Request.{on_set, on_new_set, on_enter, on_new_enter, on_which_keys, on_get, on_get_all, on_request_in, request_delivered}
use Rattle.rules.specs.Reply.{on_set_done, on_entered, on_keys, on_got, on_all, on_reply_in, reply_delivered}
use Rattle.rules.specs.Loss.{link_lost, sent_in, link_resent}
use Rattle.soundness.specs.Sound.{long_enough, press_fits, scalars_sound, key_in_range, server_sound, entry_sound, log_sound, state_allowed, uses}
use Rattle.soundness.specs.Sound.{request_sound, reply_sound, content_sound, link_sound, received_sound}
use Rattle.soundness.specs.Sound.{client_sound, write_sound, read_sound, open_sound, records_sound, sound}
use Rattle.refusals.specs.Refusals.{open_refusal, write_refusal, read_refusal, delivery_refusal}
use Rattle.refusals.specs.Steps.{open', begin_write, begin_read, deliver_request, deliver_reply, lose, resend}
use Rattle.refusals.specs.Former.{formerly_begun_read, former_open_refusal, former_write_refusal, former_read_refusal, former_open}
use Rattle.refusals.specs.Former.{former_begin_write, former_begin_read}
use Rattle.claim.specs.Steps.{opened, play}
use Rattle.claim.specs.Former.{play_formerly}
use Rattle.claim.specs.History.{changed}
use Rattle.claim.specs.Row.{reads_of, row_to}
use Rattle.claim.specs.Fields.{walk, whole, complete, ends, whose}
use Rattle.claim.specs.Sample.{zeros}
use Rattle.claim.specs.WrongStores as store
use Rattle.claim.specs.WrongStores.{first}
use Rattle.claim.specs.Lists.{write_one, read_by_b, then_read_by_b, acknowledged, lost_reply, asked_again}
use Rattle.claim.proofs.Broken.{Computed, breaks}
use Rattle.claim.specs.Broken.{played, Breaks}

record Tested : Type 0 where
  by_a : (former_open 1 2 2 first zeros).answer ≡ Ok
  by_b : (open' 2 2 2 first zeros).answer ≡ Ok
  by_c : (open' 3 2 2 first zeros).answer ≡ Ok
  right_of-one : Computed [] play 2 (write_one 0 ++ read_by_b 1)
  not-opening_at-server_1 : Computed (walk ∷ []) (store.opening_at_server1 play) 2 then_read_by_b
  not_beyond : Computed (whole ∷ complete ∷ []) (store.tag_too_large play) 2 (read_by_b 1)
  not_unentered : Computed (whose ∷ []) (store.written_unentered play) 3 (acknowledged 0)
  not_early-by_a-reply : Computed (ends ∷ []) (store.losing_nothing play_formerly) 1 lost_reply
  not_late-by_a-request : Computed (ends ∷ []) (store.ending_late play_formerly) 1 asked_again

tested : Tested
unfolding formerly_begun_read former_open_refusal former_write_refusal former_read_refusal former_open former_begin_write former_begin_read
    zeros played changed inserted reads_of row_to open' begin_write begin_read deliver_request deliver_reply open_refusal
    write_refusal read_refusal delivery_refusal long_enough press_fits turns sound scalars_sound key_in_range server_sound entry_sound log_sound
    state_allowed uses request_sound reply_sound content_sound link_sound received_sound client_sound write_sound read_sound open_sound
    records_sound all_below any_below sum_below link_at put_link first_from last_below appended log.entered begun_write begun_read on_set
    on_new_set on_enter on_new_enter on_which_keys on_get on_get_all on_request_in request_delivered on_set_done on_entered on_keys on_got on_all on_reply_in
    reply_delivered link_lost sent_in link_resent lose resend
tested = record {
  by_a = refl;
  by_b = refl;
  by_c = refl;
  right_of-one = refl;
  not-opening_at-server_1 = refl;
  not_beyond = refl;
  not_unentered = refl;
  not_early-by_a-reply = refl;
  not_late-by_a-request = refl;
}

-- each opens as the store does, or by A as it did
pub opens_a : opened 1 2 2 first (former_open 1 2 2 first zeros).answer ≡ opened 1 2 2 first Ok
opens_a = ap (opened 1 2 2 first) tested.by_a

pub opens_b : opened 2 2 2 first (open' 2 2 2 first zeros).answer ≡ opened 2 2 2 first Ok
opens_b = ap (opened 2 2 2 first) tested.by_b

pub opens_c : opened 3 2 2 first (open' 3 2 2 first zeros).answer ≡ opened 3 2 2 first Ok
opens_c = ap (opened 3 2 2 first) tested.by_c

-- ---- the store itself passes every test on a WRITE of one station and a READ of both

pub right_of-one : Computed [] play 2 (write_one 0 ++ read_by_b 1)
right_of-one = tested.right_of-one

-- ---- the wrong stores, by field

-- a READ shows the opening, at server 1 only
pub not-opening_at-server_1 : Breaks (walk ∷ []) (store.opening_at_server1 play) 2 then_read_by_b
not-opening_at-server_1 = breaks (store.opening_at_server1 play) 2 then_read_by_b walk [] opens_b tested.not-opening_at-server_1

-- a READ answers a tag beyond the last
pub not_beyond : Breaks (whole ∷ complete ∷ []) (store.tag_too_large play) 2 (read_by_b 1)
not_beyond = breaks (store.tag_too_large play) 2 (read_by_b 1) whole (complete ∷ []) opens_b tested.not_beyond

-- *write* before the entry
pub not_unentered : Breaks (whose ∷ []) (store.written_unentered play) 3 (acknowledged 0)
not_unentered = breaks (store.written_unentered play) 3 (acknowledged 0) whose [] opens_c tested.not_unentered

-- a READ ends a delivery early: its lost reply came all the same
pub not_early-by_a-reply : Breaks (ends ∷ []) (store.losing_nothing play_formerly) 1 lost_reply
not_early-by_a-reply = breaks (store.losing_nothing play_formerly) 1 lost_reply ends [] opens_a tested.not_early-by_a-reply

-- a READ ends a delivery late: it lost a request, and no reply
pub not_late-by_a-request : Breaks (ends ∷ []) (store.ending_late play_formerly) 1 asked_again
not_late-by_a-request = breaks (store.ending_late play_formerly) 1 asked_again ends [] opens_a tested.not_late-by_a-request
