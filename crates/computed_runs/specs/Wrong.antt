-- That the claim rules wrong stores out, field by field: for each field and each kind of pair of real time a wrong store and a list of
-- steps on which it fails, and all the others hold; those at which a changed claim is noticed stand in `claim/Wrong`. `whole` and
-- `complete` say the same, and whatever a machine answers, no WRITE stands before one that had finished when it began
-- (`serial/proofs/Always.antt`).
use Rattle.std.specs.Prelude.{◌≡◌, refl, List, [], ◌∷◌, ◌++◌, ℕ}
use Rattle.std.proofs.Common.{ap}
use Rattle.ranges.specs.All.{all_below, any_below}
use Rattle.ranges.specs.Sum.{sum_below}
use Rattle.ranges.specs.First.{first_from}
use Rattle.ranges.specs.Last.{last_below}
use Rattle.ranges.specs.Turns.{turns}
use Rattle.ranges.specs.Inserted.{inserted}
use Rattle.tables.specs.Links.{link_at, put_link}
use Rattle.server.specs.Held.{appended}
use Rattle.coordinator.specs.Log as log
use Rattle.rules.specs.Begin.{begun_write, begun_read}
use Rattle.rules.specs.Request.{on_set, on_new_set, on_enter, on_new_enter, on_which_keys, on_get, on_get_all, on_request_in, request_delivered}
use Rattle.rules.specs.Reply.{on_set_done, on_entered, on_keys, on_got, on_all, on_reply_in, reply_delivered}
use Rattle.rules.specs.Loss.{link_lost, sent_in, link_resent}
use Rattle.soundness.specs.Sound.{long_enough, press_fits, scalars_sound, key_in_range, server_sound, entry_sound, log_sound, state_allowed, uses}
use Rattle.soundness.specs.Sound.{request_sound, reply_sound, content_sound, link_sound, received_sound}
use Rattle.soundness.specs.Sound.{client_sound, write_sound, read_sound, open_sound, records_sound, sound}
use Rattle.refusals.specs.Refusals.{open_refusal, write_refusal, read_refusal, delivery_refusal}
use Rattle.refusals.specs.Steps.{open', begin_write, begin_read, deliver_request, deliver_reply, lose, resend}
use Rattle.refusals.specs.Former.{formerly_begun_read, former_open_refusal, former_write_refusal, former_read_refusal, former_open}
use Rattle.refusals.specs.Former.{former_begin_write, former_begin_read}
use Rattle.claim.specs.Steps.{play}
use Rattle.claim.specs.Former.{play_formerly}
use Rattle.claim.specs.History.{changed}
use Rattle.claim.specs.Row.{reads_of, row_to}
use Rattle.claim.specs.Fields.{walk, read_after_read, write_after_read, read_after_write, answered, ends, unfinished, tags, whose}
use Rattle.claim.specs.Sample.{zeros}
use Rattle.claim.specs.WrongStores as store
use Rattle.claim.specs.Lists.{read_by_a, read_by_b, read_by_c, write_both, write_one, then_read_by_a, then_read_by_b, then_read_by_c, then_read_of_both}
use Rattle.claim.specs.Lists.{two_reads, then_write, hasty, crossing, reply_more, reply_less, request_only, overtaken, write_twice, read_twice}
use Rattle.claim.specs.Lists.{reply_only, lossy_by_a, lossy_by_b, lossy_by_c, lost_request, entered_again, entered_between}
use Rattle.claim.specs.Broken.{played, Breaks}
use Rattle.claim.proofs.Broken.{Computed, breaks}
use Rattle.claim.proofs.Wrong.{opens_a, opens_b, opens_c, right_of-one}

-- ---- what the tests of every field say of each, computed

record Tested : Type 0 where
  right_by-A : Computed [] play_formerly 1 then_read_by_a
  right_by-B : Computed [] play 2 then_read_by_b
  right_by-C : Computed [] play 3 then_read_by_c
  right_of-two : Computed [] play 3 two_reads
  right-then_write : Computed [] play 2 then_write
  right-lossy_by-A : Computed [] play_formerly 1 lossy_by_a
  right-lossy_by-B : Computed [] play 2 lossy_by_b
  right-lossy_by-C : Computed [] play 3 lossy_by_c
  right-between : Computed [] play 3 entered_between
  not-opening_shown : Computed (walk ∷ []) (store.opening_shown play_formerly) 1 then_read_by_a
  not-latest : Computed (walk ∷ []) (store.showing_latest play) 2 crossing
  not-own_tag : Computed (walk ∷ []) (store.own_tag play) 3 then_read_of_both
  not-mixed : Computed (walk ∷ []) (store.mixing_badges play) 2 crossing
  not-opening_again : Computed (read_after_read ∷ []) (store.opening_again play) 3 two_reads
  not-to_come : Computed (write_after_read ∷ []) (store.tag_too_large play) 2 then_write
  not-opening_always : Computed (read_after_write ∷ []) (store.opening_always play) 2 then_read_by_b
  not-opening_always_by-A : Computed (read_after_write ∷ []) (store.opening_always play_formerly) 1 then_read_by_a
  not-opening_always_by-C : Computed (read_after_write ∷ []) (store.opening_always play) 3 then_read_by_c
  not-hurried : Computed (read_after_write ∷ []) (store.hurrying play) 3 hasty
  not_unanswered : Computed (answered ∷ []) (store.unanswering play) 2 request_only
  not_late : Computed (ends ∷ []) (store.ending_late play_formerly) 1 reply_more
  not_early : Computed (ends ∷ []) (store.ending_early play) 2 reply_less
  not-waiting : Computed (unfinished ∷ []) (store.waiting_for_ever play) 3 (read_by_c 1)
  not_invented : Computed (tags ∷ []) (store.inventing play) 3 (write_both 0)
  not-overtaken : Computed (whose ∷ []) (store.written_unentered play) 2 overtaken
  not-written_for_read : Computed (whose ∷ []) (store.written_for_read play_formerly) 1 (read_by_a 0)
  not-writing-twice : Computed (whose ∷ []) (store.beginning_always play_formerly) 1 write_twice
  not-reading-twice : Computed (whose ∷ []) (store.beginning_always play) 2 read_twice
  not-waiting_at_nothing : Computed (whose ∷ []) (store.waiting_at_nothing play) 3 reply_only
  not-arrived : Computed (read_after_write ∷ []) (store.loss_arrives play) 3 lost_request
  not-entered-twice : Computed (tags ∷ []) (store.entering_twice play) 3 entered_again
  not-last_tag : Computed (tags ∷ []) (store.answering_last_tag play) 3 entered_between

tested : Tested
unfolding formerly_begun_read former_open_refusal former_write_refusal former_read_refusal former_open former_begin_write former_begin_read
    zeros played changed inserted reads_of row_to open' begin_write begin_read deliver_request deliver_reply open_refusal
    write_refusal read_refusal delivery_refusal long_enough press_fits turns sound scalars_sound key_in_range server_sound entry_sound log_sound
    state_allowed uses request_sound reply_sound content_sound link_sound received_sound client_sound write_sound read_sound open_sound
    records_sound all_below any_below sum_below link_at put_link first_from last_below appended log.entered begun_write begun_read on_set
    on_new_set on_enter on_new_enter on_which_keys on_get on_get_all on_request_in request_delivered on_set_done on_entered on_keys on_got on_all on_reply_in
    reply_delivered link_lost sent_in link_resent lose resend
tested = record {
  right_by-A = refl;
  right_by-B = refl;
  right_by-C = refl;
  right_of-two = refl;
  right-then_write = refl;
  right-lossy_by-A = refl;
  right-lossy_by-B = refl;
  right-lossy_by-C = refl;
  right-between = refl;
  not-opening_shown = refl;
  not-latest = refl;
  not-own_tag = refl;
  not-mixed = refl;
  not-opening_again = refl;
  not-to_come = refl;
  not-opening_always = refl;
  not-opening_always_by-A = refl;
  not-opening_always_by-C = refl;
  not-hurried = refl;
  not_unanswered = refl;
  not_late = refl;
  not_early = refl;
  not-waiting = refl;
  not_invented = refl;
  not-overtaken = refl;
  not-written_for_read = refl;
  not-writing-twice = refl;
  not-reading-twice = refl;
  not-waiting_at_nothing = refl;
  not-arrived = refl;
  not-entered-twice = refl;
  not-last_tag = refl;
}

-- ---- the store itself passes every test on such lists

pub passes : Computed [] play_formerly 1 then_read_by_a ×
    Computed [] play 2 then_read_by_b ×
    Computed [] play 3 then_read_by_c ×
    Computed [] play 2 (write_one 0 ++ read_by_b 1) ×
    Computed [] play 3 two_reads ×
    Computed [] play 2 then_write
passes = (tested.right_by-A, tested.right_by-B, tested.right_by-C, right_of-one, tested.right_of-two, tested.right-then_write)

-- and with every request and every reply lost once
pub passes-lossy : Computed [] play_formerly 1 lossy_by_a ×
    Computed [] play 2 lossy_by_b ×
    Computed [] play 3 lossy_by_c ×
    Computed [] play 3 entered_between
passes-lossy = (tested.right-lossy_by-A, tested.right-lossy_by-B, tested.right-lossy_by-C, tested.right-between)

-- ---- the wrong stores, by field

-- a READ under A shows the opening, at its tag
pub not-opening_shown : Breaks (walk ∷ []) (store.opening_shown play_formerly) 1 then_read_by_a
not-opening_shown = breaks (store.opening_shown play_formerly) 1 then_read_by_a walk [] opens_a tested.not-opening_shown

-- a station shows its latest arrival
pub not-latest : Breaks (walk ∷ []) (store.showing_latest play) 2 crossing
not-latest = breaks (store.showing_latest play) 2 crossing walk [] opens_b tested.not-latest

-- a READ shows right setpoints with a wrong tag: its own, with a setpoint that the opening put there
pub not-own_tag : Breaks (walk ∷ []) (store.own_tag play) 3 then_read_of_both
not-own_tag = breaks (store.own_tag play) 3 then_read_of_both walk [] opens_c tested.not-own_tag

-- a READ shows right setpoints and tags with the badge of another WRITE
pub not-mixed : Breaks (walk ∷ []) (store.mixing_badges play) 2 crossing
not-mixed = breaks (store.mixing_badges play) 2 crossing walk [] opens_b tested.not-mixed

-- the second of two READs shows the opening, the first did not
pub not-opening_again : Breaks (read_after_read ∷ []) (store.opening_again play) 3 two_reads
not-opening_again = breaks (store.opening_again play) 3 two_reads read_after_read [] opens_c tested.not-opening_again

-- a READ answers the tag of a WRITE that begins when it has ended
pub not-to_come : Breaks (write_after_read ∷ []) (store.tag_too_large play) 2 then_write
not-to_come = breaks (store.tag_too_large play) 2 then_write write_after_read [] opens_b tested.not-to_come

-- a READ always shows the opening at tag 0: by A, B, C
pub not-opening_always : Breaks (read_after_write ∷ []) (store.opening_always play) 2 then_read_by_b
not-opening_always = breaks (store.opening_always play) 2 then_read_by_b read_after_write [] opens_b tested.not-opening_always

pub not-opening_always_by-A : Breaks (read_after_write ∷ []) (store.opening_always play_formerly) 1 then_read_by_a
not-opening_always_by-A = breaks (store.opening_always play_formerly) 1 then_read_by_a read_after_write [] opens_a tested.not-opening_always_by-A

pub not-opening_always_by-C : Breaks (read_after_write ∷ []) (store.opening_always play) 3 then_read_by_c
not-opening_always_by-C = breaks (store.opening_always play) 3 then_read_by_c read_after_write [] opens_c tested.not-opening_always_by-C

-- the head's entry before the last acknowledgement
pub not-hurried : Breaks (read_after_write ∷ []) (store.hurrying play) 3 hasty
not-hurried = breaks (store.hurrying play) 3 hasty read_after_write [] opens_c tested.not-hurried

-- *ok* to a request, and no reply on its link
pub not_unanswered : Breaks (answered ∷ []) (store.unanswering play) 2 request_only
not_unanswered = breaks (store.unanswering play) 2 request_only answered [] opens_b tested.not_unanswered

-- a READ ends a delivery late
pub not_late : Breaks (ends ∷ []) (store.ending_late play_formerly) 1 reply_more
not_late = breaks (store.ending_late play_formerly) 1 reply_more ends [] opens_a tested.not_late

-- a READ ends early
pub not_early : Breaks (ends ∷ []) (store.ending_early play) 2 reply_less
not_early = breaks (store.ending_early play) 2 reply_less ends [] opens_b tested.not_early

-- *wait* for ever
pub not-waiting : Breaks (unfinished ∷ []) (store.waiting_for_ever play) 3 (read_by_c 1)
not-waiting = breaks (store.waiting_for_ever play) 3 (read_by_c 1) unfinished [] opens_c tested.not-waiting

-- an invented tag
pub not_invented : Breaks (tags ∷ []) (store.inventing play) 3 (write_both 0)
not_invented = breaks (store.inventing play) 3 (write_both 0) tags [] opens_c tested.not_invented

-- *write* before the entry, which `claim/Wrong: not_unentered` refutes: so a WRITE that was told *write* has a tag above that of one which
-- began then: a WRITE after a WRITE in the wrong order
pub not-overtaken : Breaks (whose ∷ []) (store.written_unentered play) 2 overtaken
not-overtaken = breaks (store.written_unentered play) 2 overtaken whose [] opens_b tested.not-overtaken

-- *write* at the end of a READ
pub not-written_for_read : Breaks (whose ∷ []) (store.written_for_read play_formerly) 1 (read_by_a 0)
not-written_for_read = breaks (store.written_for_read play_formerly) 1 (read_by_a 0) whose [] opens_a tested.not-written_for_read

-- a begin is accepted while the client is busy
pub not-writing-twice : Breaks (whose ∷ []) (store.beginning_always play_formerly) 1 write_twice
not-writing-twice = breaks (store.beginning_always play_formerly) 1 write_twice whose [] opens_a tested.not-writing-twice

pub not-reading-twice : Breaks (whose ∷ []) (store.beginning_always play) 2 read_twice
not-reading-twice = breaks (store.beginning_always play) 2 read_twice whose [] opens_b tested.not-reading-twice

-- a delivery is accepted while the client is idle
pub not-waiting_at_nothing : Breaks (whose ∷ []) (store.waiting_at_nothing play) 3 reply_only
not-waiting_at_nothing = breaks (store.waiting_at_nothing play) 3 reply_only whose [] opens_c tested.not-waiting_at_nothing

-- a lost link is taken for an arrived acknowledgement: the WRITE ends, and server 1 does not have it
pub not-arrived : Breaks (read_after_write ∷ []) (store.loss_arrives play) 3 lost_request
not-arrived = breaks (store.loss_arrives play) 3 lost_request read_after_write [] opens_c tested.not-arrived

-- a resent enter is entered twice
pub not-entered-twice : Breaks (tags ∷ []) (store.entering_twice play) 3 entered_again
not-entered-twice = breaks (store.entering_twice play) 3 entered_again tags [] opens_c tested.not-entered-twice

-- a resent enter is answered with the last tag
pub not-last_tag : Breaks (tags ∷ []) (store.answering_last_tag play) 3 entered_between
not-last_tag = breaks (store.answering_last_tag play) 3 entered_between tags [] opens_c tested.not-last_tag
