-- Worked by hand: B, two stations, two panels, opening values 0, seed 0.
use Rattle.std.specs.Prelude.{ℕ, zero, suc, ◌*◌, ◌≡◌, refl, List, [], ◌∷◌, replicate}
use Rattle.tables.specs.Layout.{count_words, client_width, server_places, value_width, log_places, entry_width, record_places, record_width}
use Rattle.tables.specs.Links.{link_width, targets}
use Rattle.tables.specs.Tables.{Tables, tables_of}
use Rattle.ranges.specs.All.{all_below, any_below}
use Rattle.ranges.specs.Sum.{sum_below}
use Rattle.ranges.specs.First.{first_from}
use Rattle.ranges.specs.Last.{last_below}
use Rattle.ranges.specs.Turns.{turns}
use Rattle.server.specs.Held.{appended}
use Rattle.coordinator.specs.Log.{entered}
use Rattle.tables.specs.Links.{link_at, put_link}
use Rattle.rules.specs.Begin.{begun_write, begun_read}
use Rattle.rules.specs.Request.{on_new_set, on_set, on_new_enter, on_enter, on_which_keys, on_get, on_get_all, on_request_in, request_delivered}
use Rattle.rules.specs.Reply.{on_set_done, on_entered, on_keys, on_got, on_all, on_reply_in, reply_delivered}
use Rattle.soundness.specs.Sound.{long_enough, press_fits, sound, scalars_sound, key_in_range, server_sound, entry_sound, log_sound}
use Rattle.soundness.specs.Sound.{state_allowed, uses, request_sound, reply_sound, content_sound, link_sound, received_sound, client_sound}
use Rattle.soundness.specs.Sound.{write_sound, read_sound, open_sound, records_sound}
use Rattle.refusals.specs.Refusals.{open_refusal, write_refusal, read_refusal, delivery_refusal}
use Rattle.refusals.specs.Steps.{open', begin_write, begin_read, deliver_request, deliver_reply}
use Rattle.schedule.specs.declared.Step.TheVariants.{BeginWrite, BeginRead, Request, Reply}
use Rattle.playing.specs.Played.{played}
use Rattle.workload.specs.Passing.{passing}
use Rattle.workload.specs.Load.{advance, index_by, load_step, load_played, numbered, picked_from, next_step}
use Rattle.workload.specs.declared.LoadStep.{LoadStep}
use Rattle.workload.specs.Next.{Next}
use Rattle.workload.specs.Next as next

-- tables of two servers and two clients, all zero
unfoldable pub blank : Tables
blank =
    tables_of (replicate count_words 0) (replicate (client_width * 2) 0) (replicate (link_width * (targets * 2)) 0)
    (replicate (server_places * 2) 0) (replicate (value_width * (server_places * 2)) 0) (replicate (entry_width * log_places) 0)
    (replicate (record_width * record_places) 0) (replicate (record_width * record_places) 0)

unfoldable pub opened : Tables
opened = (open' 2 2 2 (0 ∷ 0 ∷ []) blank).tables

-- the first steps of a load, each on the tables that the one before it left
unfoldable pub given : Next → Tables → (ℕ → Tables → List LoadStep) → List LoadStep
given (next.Refused number) t more = []
given next.End t more = []
given (next.Given seed s) t more = s ∷ more seed (load_played t s).tables

unfoldable pub steps_from : ℕ → ℕ → Tables → List LoadStep
steps_from zero seed t = []
steps_from (suc n) seed t = given (next_step t seed) t (steps_from n)

pub record Examples : Type 0 where
  -- "seed 0 is followed by 3C6EF35F hexadecimal", then 47502932 and D1CCF6E9
  pub first : advance 0 ≡ 1013904223
  pub second : advance 1013904223 ≡ 1196435762
  pub third : advance 1196435762 ≡ 3519870697
  -- the highest number picks the last of 272, the lowest the first
  pub last : index_by 4294967295 272 ≡ 271
  pub least : index_by 65535 272 ≡ 0
  -- `W 0 3 0 1 1`, `R 1 3`, `> 1 16`, `< 1 16`, `> 0 1`, `> 1 1`, `> 1 0`, `< 1 0`, `< 0 1`, `< 1 1`, `> 0 0`, `< 0 0`
  pub steps : steps_from 12 0 opened ≡
      load_step (BeginWrite 0 3 0) 1 ∷ load_step (BeginRead 1 3) 0 ∷ load_step (Request 1 16) 0 ∷ load_step (Reply 1 16) 0 ∷
      load_step (Request 0 1) 0 ∷ load_step (Request 1 1) 0 ∷ load_step (Request 1 0) 0 ∷ load_step (Reply 1 0) 0 ∷
      load_step (Reply 0 1) 0 ∷ load_step (Reply 1 1) 0 ∷ load_step (Request 0 0) 0 ∷ load_step (Reply 0 0) 0 ∷ []

pub examples : Examples
unfolding given steps_from next_step picked_from numbered passing played blank opened open' begin_write begin_read deliver_request
    deliver_reply open_refusal write_refusal read_refusal delivery_refusal long_enough press_fits turns sound scalars_sound key_in_range
    server_sound entry_sound log_sound state_allowed uses request_sound reply_sound content_sound link_sound received_sound client_sound
    write_sound read_sound open_sound records_sound all_below any_below sum_below link_at put_link first_from last_below appended entered
    begun_write begun_read on_new_set on_set on_new_enter on_enter on_which_keys on_get on_get_all on_request_in request_delivered on_set_done on_entered
    on_keys on_got on_all on_reply_in reply_delivered
examples = record { first = refl; second = refl; third = refl; last = refl; least = refl; steps = refl }
