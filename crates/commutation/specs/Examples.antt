-- Worked examples, computed on the definitions: two requests at different targets in both orders, behind lists of steps with losses. And
-- two enters at one target, and a request and a reply, where the orders differ.
use Rattle.std.specs.Prelude.{ℕ, ◌≡◌, refl, true, List, [], ◌∷◌}
use Rattle.ranges.specs.All.{all_below, any_below}
use Rattle.ranges.specs.Sum.{sum_below}
use Rattle.ranges.specs.First.{first_from}
use Rattle.ranges.specs.Last.{last_below}
use Rattle.ranges.specs.Turns.{turns}
use Rattle.tables.specs.Layout.{entry_word, record_word, end_of_record}
use Rattle.tables.specs.Links.{link_at, put_link}
use Rattle.tables.specs.Tables.{Tables, step_of, entries_of, held_of, content_at}
use Rattle.server.specs.Held.{appended}
use Rattle.coordinator.specs.Log as log
use Rattle.rules.specs.Answer.{Ok, Refused}
use Rattle.rules.specs.declared.Arrival.TheVariants.{Next, Write}
use Rattle.rules.specs.Answers.{nothing_shown}
use Rattle.rules.specs.Common as rules
use Rattle.rules.specs.Begin.{begun_write, begun_read}
use Rattle.rules.specs.Request.{on_set, on_new_set, on_enter, on_new_enter, on_which_keys, on_get, on_get_all, on_request_in, request_delivered}
use Rattle.rules.specs.Reply.{on_set_done, on_entered, on_keys, on_got, on_all, on_reply_in, reply_delivered}
use Rattle.rules.specs.Loss.{link_lost, sent_in, link_resent}
use Rattle.soundness.specs.Sound.{long_enough, press_fits, scalars_sound, key_in_range, server_sound, entry_sound, log_sound, state_allowed, uses}
use Rattle.soundness.specs.Sound.{request_sound, reply_sound, content_sound, link_sound, received_sound, client_sound, write_sound, read_sound}
use Rattle.soundness.specs.Sound.{open_sound, records_sound, sound}
use Rattle.refusals.specs.Refusals.{open_refusal, write_refusal, read_refusal, delivery_refusal}
use Rattle.refusals.specs.Steps as store
use Rattle.claim.specs.Steps.{Step, opening, beginning-write, beginning-read, request, reply, losing, resending}
use Rattle.claim.specs.Steps.{opened, requested, replied, play, run, left_by}
use Rattle.claim.specs.Sample.{zeros}
use Rattle.commutation.specs.Claim.{in_order}
use Rattle.commutation.specs.Equal.{same_tables, same_tables_lem}

-- a press of two servers and two clients, opened by a method with 1200 and 30, and the tables behind a list of steps
abbrev pub opens : ℕ → Step
opens method = opening method 2 2 (1200 ∷ 30 ∷ [])

abbrev pub Opened : ℕ → Type 0
Opened method = (play (opens method) zeros).event ≡ opened method 2 2 (1200 ∷ 30 ∷ []) Ok

abbrev pub behind : ℕ → List Step → Tables
behind method steps = let start = (play (opens method) zeros).tables in left_by (run play steps start) start

-- By B, client 0 waits for its tag, whose request was lost and sent again, and client 1 writes at server 1: a set and an enter.
abbrev pub enter_and_set : List Step
enter_and_set =
    beginning-write 0 1 7 (1800 ∷ 45 ∷ []) ∷ request 0 0 ∷ reply 0 0 ∷ losing 0 16 ∷ beginning-write 1 2 9 (900 ∷ 12 ∷ []) ∷
    resending 0 16 ∷ []

-- By C, client 0 reads, one reply of it is lost, and client 1 writes at server 0: a get log and a set.
abbrev pub get_log_and_set : List Step
get_log_and_set = beginning-read 0 3 ∷ request 0 0 ∷ losing 0 0 ∷ beginning-write 1 1 9 (900 ∷ 12 ∷ []) ∷ []

-- By B, client 1 writes at both servers: two sets of one client.
abbrev pub two_sets : List Step
two_sets = beginning-write 1 3 9 (900 ∷ 12 ∷ []) ∷ []

-- By B, both clients wait for their tags.
abbrev pub two_enters : List Step
two_enters =
    beginning-write 0 1 7 (1800 ∷ 45 ∷ []) ∷ beginning-write 1 2 9 (900 ∷ 12 ∷ []) ∷ request 0 0 ∷ reply 0 0 ∷ request 1 1 ∷ reply 1 1 ∷ []

-- By B, client 0 has its tag on its link, and client 1 writes at server 0: a set and a reply, at different targets.
abbrev pub set_and_reply : List Step
set_and_reply =
    beginning-write 0 1 7 (1800 ∷ 45 ∷ []) ∷ request 0 0 ∷ reply 0 0 ∷ request 0 16 ∷ beginning-write 1 1 9 (900 ∷ 12 ∷ []) ∷ []

-- By B, client 0 has its last acknowledgement on its link: a reply and the enter that it sends, at different targets.
abbrev pub reply_and_enter : List Step
reply_and_enter = beginning-write 0 1 7 (1800 ∷ 45 ∷ []) ∷ request 0 0 ∷ []

-- two requests are accepted in both orders
pub record BothAccepted (t : Tables) (q i r j : ℕ) : Type 0 where
  pub one : (play (request q i) t).event ≡ requested q i Ok
  pub other : (play (request r j) (play (request q i) t).tables).event ≡ requested r j Ok
  pub sooner : (play (request r j) t).event ≡ requested r j Ok
  pub later : (play (request q i) (play (request r j) t).tables).event ≡ requested q i Ok

-- and leave equal tables, all eight, by a computed test
pub record Alike (t : Tables) (q i r j : ℕ) : Type 0 where
  pub accepted : BothAccepted t q i r j
  pub same : same_tables (in_order play (request r j) (request q i) t) (in_order play (request q i) (request r j) t) ≡ true

pub alike-equal : (t : Tables) (q i r j : ℕ) → Alike t q i r j →
    in_order play (request r j) (request q i) t ≡ in_order play (request q i) (request r j) t
alike-equal t q i r j x = same_tables_lem _ _ x.same

-- what they leave behind a list of steps
abbrev left : ℕ → List Step → ℕ → ℕ → ℕ → ℕ → Tables
left method steps q i r j = in_order play (request q i) (request r j) (behind method steps)

-- the end of the first WRITE
abbrev pub end_of : Tables → ℕ
end_of t = record_word t.writes 0 end_of_record

pub record Examples : Type 0 where
  pub by-B : Opened 2
  pub by-C : Opened 3
  pub set-enter : Alike (behind 2 enter_and_set) 1 1 0 16
  -- nine steps, a version more at server 1, an entry more
  pub set-enter_step : step_of (left 2 enter_and_set 1 1 0 16) ≡ 9
  pub set-enter_held : held_of (left 2 enter_and_set 1 1 0 16) 1 ≡ 2
  pub set-enter-entries : entries_of (left 2 enter_and_set 1 1 0 16) ≡ 2
  pub get-log-set : Alike (behind 3 get_log_and_set) 0 16 1 0
  -- the reply tells the log's one entry, and server 0 has a version more
  pub get-log-told : content_at (left 3 get_log_and_set 0 16 1 0) 0 16 ≡ rules.reply 1
  pub get-log_held : held_of (left 3 get_log_and_set 0 16 1 0) 0 ≡ 2
  pub two-sets : Alike (behind 2 two_sets) 1 0 1 1

-- What differs: accepted in both orders, two enters give tag 1 to the client that comes first, so that its key stands there; a WRITE that
-- ends keeps the number of the step; and an enter that is not sent yet is refused.
pub record Differing : Type 0 where
  pub two-enters : BothAccepted (behind 2 two_enters) 0 16 1 16
  pub enters : entry_word (left 2 two_enters 0 16 1 16).log 1 ≡ 256
  pub enters-swapped : entry_word (left 2 two_enters 1 16 0 16).log 1 ≡ 257
  pub set : (play (request 1 0) (behind 2 set_and_reply)).event ≡ requested 1 0 Ok
  pub replied-behind : (play (reply 0 16) (play (request 1 0) (behind 2 set_and_reply)).tables).event ≡ replied 0 16 (nothing_shown (Write 1))
  pub end : end_of (in_order play (request 1 0) (reply 0 16) (behind 2 set_and_reply)) ≡ 8
  pub end-swapped : end_of (in_order play (reply 0 16) (request 1 0) (behind 2 set_and_reply)) ≡ 7
  pub acknowledged : (play (reply 0 0) (behind 2 reply_and_enter)).event ≡ replied 0 0 (nothing_shown Next)
  pub enter : (play (request 0 16) (play (reply 0 0) (behind 2 reply_and_enter)).tables).event ≡ requested 0 16 Ok
  pub not-sent : (play (request 0 16) (behind 2 reply_and_enter)).event ≡ requested 0 16 (Refused 9)

pub examples : Examples
unfolding zeros store.open' store.begin_write store.begin_read store.deliver_request store.deliver_reply store.lose store.resend open_refusal
    write_refusal read_refusal delivery_refusal long_enough press_fits turns sound scalars_sound key_in_range server_sound entry_sound log_sound
    state_allowed uses request_sound reply_sound content_sound link_sound received_sound client_sound write_sound read_sound open_sound records_sound
    all_below any_below sum_below link_at put_link first_from last_below appended log.entered begun_write begun_read on_set on_new_set on_enter
    on_new_enter on_which_keys on_get on_get_all on_request_in request_delivered on_set_done on_entered on_keys on_got on_all on_reply_in reply_delivered
    link_lost sent_in link_resent
examples = record {
  by-B = refl;
  by-C = refl;
  set-enter = record { accepted = record { one = refl; other = refl; sooner = refl; later = refl }; same = refl };
  set-enter_step = refl;
  set-enter_held = refl;
  set-enter-entries = refl;
  get-log-set = record { accepted = record { one = refl; other = refl; sooner = refl; later = refl }; same = refl };
  get-log-told = refl;
  get-log_held = refl;
  two-sets = record { accepted = record { one = refl; other = refl; sooner = refl; later = refl }; same = refl };
}

pub differing : Differing
unfolding zeros store.open' store.begin_write store.begin_read store.deliver_request store.deliver_reply store.lose store.resend open_refusal
    write_refusal read_refusal delivery_refusal long_enough press_fits turns sound scalars_sound key_in_range server_sound entry_sound log_sound
    state_allowed uses request_sound reply_sound content_sound link_sound received_sound client_sound write_sound read_sound open_sound records_sound
    all_below any_below sum_below link_at put_link first_from last_below appended log.entered begun_write begun_read on_set on_new_set on_enter
    on_new_enter on_which_keys on_get on_get_all on_request_in request_delivered on_set_done on_entered on_keys on_got on_all on_reply_in reply_delivered
    link_lost sent_in link_resent
differing = record {
  two-enters = record { one = refl; other = refl; sooner = refl; later = refl };
  enters = refl;
  enters-swapped = refl;
  set = refl;
  replied-behind = refl;
  end = refl;
  end-swapped = refl;
  acknowledged = refl;
  enter = refl;
  not-sent = refl;
}
