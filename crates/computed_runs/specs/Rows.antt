-- Document 01's sample, played on `store`'s definitions, computes to the row that document 01 prints, and lists of steps for document 02's
-- rows to theirs.
use Rattle.std.specs.Prelude.{ℕ, ◌≡◌, refl, List, [], ◌∷◌, ◌++◌}
use Rattle.std.proofs.Math.Option.{none, some}
use Rattle.ranges.specs.All.{all_below, any_below}
use Rattle.ranges.specs.Sum.{sum_below}
use Rattle.ranges.specs.First.{first_from}
use Rattle.ranges.specs.Last.{last_below}
use Rattle.ranges.specs.Turns.{turns}
use Rattle.ranges.specs.Inserted.{inserted}
use Rattle.tables.specs.Links.{link_at, put_link}
use Rattle.server.specs.Held.{appended}
use Rattle.coordinator.specs.Log as log
use Rattle.rules.specs.Begin.{begun_write, begun_read}
use Rattle.rules.specs.Request.{on_set, on_new_set, on_enter, on_new_enter, on_which_keys, on_get, on_get_all, on_request_in, request_delivered}
use Rattle.rules.specs.Reply.{on_set_done, on_entered, on_keys, on_got, on_all, on_reply_in, reply_delivered}
use Rattle.rules.specs.Loss.{link_lost, sent_in, link_resent}
use Rattle.soundness.specs.Sound.{long_enough, press_fits, scalars_sound, key_in_range, server_sound, entry_sound, log_sound, state_allowed, uses}
use Rattle.soundness.specs.Sound.{request_sound, reply_sound, content_sound, link_sound, received_sound}
use Rattle.soundness.specs.Sound.{client_sound, write_sound, read_sound, open_sound, records_sound, sound}
use Rattle.refusals.specs.Refusals.{open_refusal, write_refusal, read_refusal, delivery_refusal}
use Rattle.refusals.specs.Steps as store
use Rattle.refusals.specs.Former.{formerly_begun_read, former_open_refusal, former_write_refusal, former_read_refusal, former_open}
use Rattle.refusals.specs.Former.{former_begin_write, former_begin_read}
use Rattle.claim.specs.Steps.{Step, beginning-write, beginning-read, request, reply, losing, resending, play, run}
use Rattle.claim.specs.History.{Transaction, value_written, value_shown, changed, write_of, read_of, opened_with, history}
use Rattle.claim.specs.Row.{reads_of, row_to, row}
use Rattle.claim.specs.Sample.{zeros, start, sample, shows, start_by, row_by, later_first, read_opening, reads_by-begin}

-- `R 0 1 4 14` and `W 1 0 1 2 15 0`: the steps count from 0 behind the opening, which is document 01's step 1
pub sample-row : row (history (run play sample start) (opened_with 2 (1200 ∷ 30 ∷ []))) ≡
    read_of 1 3 (value_shown (shows 0 (1200 ∷ 30 ∷ []) (0 ∷ 0 ∷ []) (0 ∷ 0 ∷ []))) 0 2 12 6 0 ∷
    write_of 0 3 (value_written 1 0 (1800 ∷ 45 ∷ [])) 1 0 (some 13) ∷ []
unfolding zeros start sample changed inserted reads_of row_to store.open' store.begin_write store.begin_read store.deliver_request
    store.deliver_reply open_refusal write_refusal read_refusal delivery_refusal long_enough press_fits turns sound scalars_sound key_in_range
    server_sound entry_sound log_sound state_allowed uses request_sound reply_sound content_sound link_sound received_sound client_sound
    write_sound read_sound open_sound records_sound all_below any_below sum_below link_at put_link first_from last_below appended log.entered
    begun_write begun_read on_set on_new_set on_enter on_new_enter on_which_keys on_get on_get_all on_request_in request_delivered on_set_done on_entered
    on_keys on_got on_all on_reply_in reply_delivered
sample-row = refl

-- "A READ now shows with each setpoint the tag of the WRITE that put it there, 0 for the opening": one WRITE of server 0 alone, from its
-- begin to its end, and then a READ of both servers. Client 0 reads, since under A no other did; A's runs open and begin by the former
-- rules, which open and begin those of B and C as today's do. The WRITE has badge 7.
unfoldable pub one : List Step
one = beginning-write 1 1 7 (1800 ∷ 45 ∷ []) ∷ request 1 0 ∷ reply 1 0 ∷ request 1 16 ∷ reply 1 16 ∷ []

unfoldable pub read_a : List Step
read_a = beginning-read 0 3 ∷ request 0 0 ∷ reply 0 0 ∷ request 0 1 ∷ reply 0 1 ∷ []

unfoldable pub read_b : List Step
read_b = beginning-read 0 3 ∷ request 0 16 ∷ reply 0 16 ∷ request 0 0 ∷ reply 0 0 ∷ request 0 1 ∷ reply 0 1 ∷ []

unfoldable pub read_c : List Step
read_c = beginning-read 0 3 ∷ request 0 0 ∷ request 0 1 ∷ request 0 16 ∷ reply 0 0 ∷ reply 0 1 ∷ reply 0 16 ∷ []

-- Under C, the servers answer a READ before a WRITE of both comes to them, and the coordinator after it: the READ falls back to tag 1.
unfoldable pub behind_c : List Step
behind_c =
    beginning-read 0 3 ∷ request 0 0 ∷ request 0 1 ∷
    beginning-write 1 3 9 (900 ∷ 12 ∷ []) ∷ request 1 0 ∷ request 1 1 ∷ reply 1 0 ∷ reply 1 1 ∷ request 1 16 ∷
    request 0 16 ∷ reply 0 0 ∷ reply 0 1 ∷ reply 0 16 ∷ []

-- the WRITE, and a READ behind it that shows 1800 of tag 1 and badge 7, and the opening's 30
abbrev wrote_one : Transaction
wrote_one = write_of 1 1 (value_written 1 7 (1800 ∷ 45 ∷ [])) 1 0 (some 4)

abbrev read_behind : ℕ → ℕ → Transaction
read_behind end deliveries = read_of 0 3 (value_shown (shows 1 (1800 ∷ 30 ∷ []) (1 ∷ 0 ∷ []) (7 ∷ 0 ∷ []))) 1 5 end deliveries 0

-- "A READ must show the badge … that belongs to the same WRITE as the setpoint beside it": behind the first WRITE a second with the same
-- setpoint and another badge, and then a READ
unfoldable pub again : List Step
again = beginning-write 1 1 65535 (1800 ∷ 45 ∷ []) ∷ request 1 0 ∷ reply 1 0 ∷ request 1 16 ∷ reply 1 16 ∷ []

abbrev wrote_again : Transaction
wrote_again = write_of 1 1 (value_written 2 65535 (1800 ∷ 45 ∷ [])) 2 5 (some 9)

abbrev read_again : ℕ → ℕ → Transaction
read_again end deliveries = read_of 0 3 (value_shown (shows 2 (1800 ∷ 30 ∷ []) (2 ∷ 0 ∷ []) (65535 ∷ 0 ∷ []))) 2 10 end deliveries 0

-- "a READ needs one delivery more for each of its lost replies": a request lost and sent again, a reply lost and asked for again
unfoldable pub lossy : List ℕ → List Step
lossy [] = []
lossy (i ∷ targets) =
    losing 0 i ∷ resending 0 i ∷ request 0 i ∷ losing 0 i ∷ resending 0 i ∷ request 0 i ∷ reply 0 i ∷ lossy targets

-- such a READ, behind the WRITE
abbrev read_lossy : ℕ → ℕ → ℕ → Transaction
read_lossy end deliveries losses =
    read_of 0 3 (value_shown (shows 1 (1800 ∷ 30 ∷ []) (1 ∷ 0 ∷ []) (7 ∷ 0 ∷ []))) 1 5 end deliveries losses

pub record Rows : Type 0 where
  pub by_a : row_by 1 (one ++ read_a) ≡ wrote_one ∷ read_behind 9 4 ∷ []
  pub by_b : row_by 2 (one ++ read_b) ≡ wrote_one ∷ read_behind 11 6 ∷ []
  pub by_c : row_by 3 (one ++ read_c) ≡ wrote_one ∷ read_behind 11 6 ∷ []
  pub back : row_by 3 (one ++ behind_c) ≡ wrote_one ∷ read_behind 17 6 ∷ write_of 1 3 (value_written 2 9 (900 ∷ 12 ∷ [])) 2 8 none ∷ []
  pub again_a : row_by 1 (one ++ again ++ read_a) ≡ wrote_one ∷ wrote_again ∷ read_again 14 4 ∷ []
  pub again_b : row_by 2 (one ++ again ++ read_b) ≡ wrote_one ∷ wrote_again ∷ read_again 16 6 ∷ []
  pub again_c : row_by 3 (one ++ again ++ read_c) ≡ wrote_one ∷ wrote_again ∷ read_again 16 6 ∷ []
  -- begun at steps 0 and 1, ended at steps 9 and 5
  pub by_begin : row_by 2 later_first ≡ read_opening 0 0 9 ∷ read_opening 1 1 5 ∷ []
  -- two or three replies lost: six deliveries in place of four, nine in place of six
  pub lossy_a : row_by 1 (one ++ (beginning-read 0 3 ∷ lossy (0 ∷ 1 ∷ []))) ≡ wrote_one ∷ read_lossy 19 6 2 ∷ []
  pub lossy_b : row_by 2 (one ++ (beginning-read 0 3 ∷ lossy (16 ∷ 0 ∷ 1 ∷ []))) ≡ wrote_one ∷ read_lossy 26 9 3 ∷ []
  pub lossy_c : row_by 3 (one ++ (beginning-read 0 3 ∷ lossy (0 ∷ 1 ∷ 16 ∷ []))) ≡ wrote_one ∷ read_lossy 26 9 3 ∷ []

pub rows : Rows
unfolding formerly_begun_read former_open_refusal former_write_refusal former_read_refusal former_open former_begin_write former_begin_read
    start_by row_by one again read_a read_b read_c behind_c later_first zeros changed inserted reads_of row_to store.open' store.begin_write
    store.begin_read store.deliver_request store.deliver_reply open_refusal write_refusal read_refusal delivery_refusal long_enough press_fits
    turns sound scalars_sound key_in_range server_sound entry_sound log_sound state_allowed uses request_sound reply_sound content_sound link_sound
    received_sound client_sound write_sound read_sound open_sound records_sound all_below any_below sum_below link_at put_link first_from last_below
    appended log.entered begun_write begun_read on_set on_new_set on_enter on_new_enter on_which_keys on_get on_get_all on_request_in request_delivered
    on_set_done on_entered on_keys on_got on_all on_reply_in reply_delivered lossy link_lost sent_in link_resent store.lose store.resend
rows = record {
  by_a = refl;
  by_b = refl;
  by_c = refl;
  back = refl;
  again_a = refl;
  again_b = refl;
  again_c = refl;
  by_begin = reads_by-begin;
  lossy_a = refl;
  lossy_b = refl;
  lossy_c = refl;
}
