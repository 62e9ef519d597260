-- Against an empty claim: a run of method A, opened and begun by the former rules, has the answers that it had before method A was
-- retired. And what today's steps answer on its tables: 4 to every begin, and every transaction goes on to its end.
use Rattle.std.specs.Prelude.{ℕ, ◌≡◌, refl, true, List, [], ◌∷◌, ◌++◌, map}
use Rattle.ranges.specs.All.{all_below, any_below}
use Rattle.ranges.specs.Sum.{sum_below}
use Rattle.ranges.specs.First.{first_from}
use Rattle.ranges.specs.Last.{last_below}
use Rattle.ranges.specs.Turns.{turns}
use Rattle.tables.specs.Links.{link_at, put_link}
use Rattle.tables.specs.Tables.{Tables}
use Rattle.server.specs.Held.{appended}
use Rattle.coordinator.specs.Log as log
use Rattle.rules.specs.Answer.{Ok, Refused}
use Rattle.rules.specs.declared.Arrival.TheVariants as arrival
use Rattle.rules.specs.Answers.{nothing_shown}
use Rattle.rules.specs.Begin.{begun_write, begun_read}
use Rattle.rules.specs.Request.{on_set, on_new_set, on_enter, on_new_enter, on_which_keys, on_get, on_get_all, on_request_in, request_delivered}
use Rattle.rules.specs.Reply.{on_set_done, on_entered, on_keys, on_got, on_all, on_reply_in, reply_delivered}
use Rattle.rules.specs.Loss.{link_lost, sent_in, link_resent}
use Rattle.soundness.specs.Sound.{long_enough, press_fits, scalars_sound, key_in_range, server_sound, entry_sound, log_sound, state_allowed, uses}
use Rattle.soundness.specs.Sound.{request_sound, reply_sound, content_sound, link_sound, received_sound, client_sound, write_sound, read_sound}
use Rattle.soundness.specs.Sound.{open_sound, records_sound, sound}
use Rattle.refusals.specs.Refusals.{open_refusal, write_refusal, read_refusal, delivery_refusal}
use Rattle.refusals.specs.Steps as store
use Rattle.refusals.specs.Former.{formerly_begun_read, former_open_refusal, former_write_refusal, former_read_refusal, former_open}
use Rattle.refusals.specs.Former.{former_begin_write, former_begin_read}
use Rattle.claim.specs.Steps.{Step, opening, beginning-write, beginning-read, request, reply, losing, resending, Event, opened}
use Rattle.claim.specs.Steps.{begun-write, begun-read, requested, replied, lost, resent, play, run, left_by}
use Rattle.claim.specs.Former.{MixedStep, today, former-write, former-read, mixed, formerly}
use Rattle.claim.specs.Sample.{zeros, shows}

abbrev old : List ℕ
old = 1200 ∷ 30 ∷ []

abbrev new : List ℕ
new = 1800 ∷ 45 ∷ []

-- "A panel once read the new pressure with the old dwell time": by A a WRITE of client 1 crosses a READ of client 0, and a READ follows
abbrev ahead : List Step
ahead =
    opening 1 2 2 old ∷ beginning-write 1 3 12 new ∷ request 1 0 ∷ beginning-read 0 3 ∷ request 0 1 ∷ request 0 0 ∷ request 1 1 ∷ []

abbrev behind : List Step
behind = reply 0 0 ∷ reply 1 0 ∷ reply 1 1 ∷ request 1 16 ∷ reply 0 1 ∷ reply 1 16 ∷ []

abbrev again : List Step
again = beginning-read 0 3 ∷ request 0 1 ∷ request 0 0 ∷ reply 0 0 ∷ reply 0 1 ∷ []

abbrev pub crossing : List MixedStep
crossing = map formerly (ahead ++ behind ++ again)

abbrev pub answers : List MixedStep → Tables → List Event
answers steps t = map (λ x. x.event) (run mixed steps t)

-- where the run stands with a READ and a WRITE in progress
unfoldable pub midway : Tables
midway = left_by (run mixed (map formerly ahead) zeros) zeros

-- Today's steps there: begins of a client that is busy, with a mask of no server, of the client that wrote and of the one that read;
-- a client that is not there; the former rules refuse a busy client too, and then today's number counts. Then all goes on to its end.
abbrev begins : List Step
begins = beginning-write 1 3 12 new ∷ beginning-read 0 0 ∷ beginning-write 0 3 12 new ∷ beginning-read 1 3 ∷ beginning-read 2 3 ∷ []

abbrev pub moved : List MixedStep
moved =
    map today begins ++
    (former-write 1 3 12 new ∷ former-read 1 3 ∷ []) ++
    map today (losing 0 0 ∷ resending 0 0 ∷ request 0 0 ∷ behind ++ (beginning-read 0 3 ∷ beginning-write 1 3 12 new ∷ []))

pub record Runs : Type 0 where
  pub as_before : answers crossing zeros ≡
      opened 1 2 2 old Ok ∷ begun-write 1 3 12 new Ok ∷ requested 1 0 Ok ∷ begun-read 0 3 Ok ∷
      requested 0 1 Ok ∷ requested 0 0 Ok ∷ requested 1 1 Ok ∷
      replied 0 0 (nothing_shown arrival.Wait) ∷ replied 1 0 (nothing_shown arrival.Wait) ∷ replied 1 1 (nothing_shown arrival.Next) ∷
      requested 1 16 Ok ∷
      replied 0 1 (shows 0 old (0 ∷ 0 ∷ []) (0 ∷ 0 ∷ [])) ∷
      replied 1 16 (nothing_shown (arrival.Write 1)) ∷
      begun-read 0 3 Ok ∷ requested 0 1 Ok ∷ requested 0 0 Ok ∷ replied 0 0 (nothing_shown arrival.Wait) ∷
      replied 0 1 (shows 1 new (1 ∷ 1 ∷ []) (12 ∷ 12 ∷ [])) ∷ []
  -- "Saved tables of method 1 are still sound"
  pub still-sound : sound midway ≡ true
  -- "their transactions run to the end", "and any begin on such tables returns 4"
  pub goes_on : answers moved midway ≡
      begun-write 1 3 12 new (Refused 4) ∷ begun-read 0 0 (Refused 4) ∷ begun-write 0 3 12 new (Refused 4) ∷ begun-read 1 3 (Refused 4) ∷
      begun-read 2 3 (Refused 3) ∷
      begun-write 1 3 12 new (Refused 4) ∷ begun-read 1 3 (Refused 4) ∷
      lost 0 0 Ok ∷ resent 0 0 Ok ∷ requested 0 0 Ok ∷
      replied 0 0 (nothing_shown arrival.Wait) ∷ replied 1 0 (nothing_shown arrival.Wait) ∷ replied 1 1 (nothing_shown arrival.Next) ∷
      requested 1 16 Ok ∷
      replied 0 1 (shows 0 old (0 ∷ 0 ∷ []) (0 ∷ 0 ∷ [])) ∷
      replied 1 16 (nothing_shown (arrival.Write 1)) ∷
      begun-read 0 3 (Refused 4) ∷ begun-write 1 3 12 new (Refused 4) ∷ []
  -- "An opening with method 1 returns 1"
  pub not_opened : (play (opening 1 2 2 old) zeros).event ≡ opened 1 2 2 old (Refused 1)

pub runs : Runs
unfolding midway zeros formerly_begun_read former_open_refusal former_write_refusal former_read_refusal former_open former_begin_write former_begin_read
    store.open' store.begin_write store.begin_read store.deliver_request store.deliver_reply store.lose store.resend open_refusal write_refusal
    read_refusal delivery_refusal long_enough press_fits turns sound scalars_sound key_in_range server_sound entry_sound log_sound state_allowed
    uses request_sound reply_sound content_sound link_sound received_sound client_sound write_sound read_sound open_sound records_sound all_below
    any_below sum_below link_at put_link first_from last_below appended log.entered begun_write begun_read on_set on_new_set on_enter on_new_enter
    on_which_keys on_get on_get_all on_request_in request_delivered on_set_done on_entered on_keys on_got on_all on_reply_in reply_delivered link_lost sent_in
    link_resent
runs = record { as_before = refl; still-sound = refl; goes_on = refl; not_opened = refl }
