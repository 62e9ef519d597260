-- A wrong store, refuted: one that searches the log anew when it sends again, at the log's last tag by then. By B a READ asks for the
-- opening's key, the request is lost, a WRITE gets its tag, and then the WRITE's key would be asked for.
use Rattle.std.specs.Prelude.{ℕ, ◌≡◌, refl, List, [], ◌∷◌}
use Rattle.std.proofs.Common.{ap, arith}
use Rattle.ranges.specs.All.{all_below, any_below}
use Rattle.ranges.specs.Sum.{sum_below}
use Rattle.ranges.specs.First.{first_from}
use Rattle.ranges.specs.Last.{last_below}
use Rattle.ranges.specs.Turns.{turns}
use Rattle.coordinator.specs.Latest.{latest_key}
use Rattle.tables.specs.Links.{link_at, put_link}
use Rattle.tables.specs.Tables.{Tables}
use Rattle.tables.specs.declared.links.Content.{Content}
use Rattle.tables.specs.declared.links.Content.TheVariants.{Nothing, Request, Reply, Lost}
use Rattle.server.specs.Held.{appended}
use Rattle.coordinator.specs.Log as log
use Rattle.rules.specs.Answer.{Ok}
use Rattle.rules.specs.Common as rules
use Rattle.rules.specs.Begin.{begun_write, begun_read}
use Rattle.rules.specs.Request.{answered_by, on_set, on_new_set, on_enter, on_new_enter, on_which_keys, on_request_in, request_delivered}
use Rattle.rules.specs.Reply.{on_set_done, on_keys, on_reply_in, reply_delivered}
use Rattle.rules.specs.Loss.{link_lost}
use Rattle.soundness.specs.Sound.{long_enough, press_fits, scalars_sound, key_in_range, server_sound, entry_sound, log_sound, state_allowed, uses}
use Rattle.soundness.specs.Sound.{request_sound, reply_sound, content_sound, link_sound, received_sound, client_sound, write_sound, read_sound}
use Rattle.soundness.specs.Sound.{open_sound, records_sound, sound}
use Rattle.refusals.specs.Refusals.{open_refusal, write_refusal, read_refusal, delivery_refusal}
use Rattle.refusals.specs.Steps as store
use Rattle.refusals.specs.Former.{last_tag}
use Rattle.claim.specs.Steps.{Step, opening, beginning-write, beginning-read, request, reply, losing, resending, resent, Machine, play}
use Rattle.claim.specs.Sample.{zeros}
use Rattle.resending.specs.Claim.{SendsAgain}

abbrev anew : Machine Step
anew (opening method k p setpoints) t = play (opening method k p setpoints) t
anew (beginning-write q mask badge setpoints) t = play (beginning-write q mask badge setpoints) t
anew (beginning-read q mask) t = play (beginning-read q mask) t
anew (request q i) t = play (request q i) t
anew (reply q i) t = play (reply q i) t
anew (losing q i) t = play (losing q i) t
anew (resending q i) t =
    record { event = resent q i Ok; tables = (answered_by (rules.request (latest_key t.log i (last_tag t)) 0) q i t).tables }

-- the READ of server 0 up to its get, which is lost, the WRITE to its tag, the get sent again
abbrev steps : List Step
steps =
    beginning-read 0 1 ∷ request 0 16 ∷ reply 0 16 ∷ losing 0 0 ∷
    beginning-write 1 1 7 (1800 ∷ 45 ∷ []) ∷ request 1 0 ∷ reply 1 0 ∷ request 1 16 ∷ resending 0 0 ∷ []

-- the count of the key that a request carries
abbrev count : Content → ℕ
count Nothing = 0
count (Request w) = w.key.count
count (Reply w) = 0
count Lost = 0

pub not-anew : SendsAgain anew → ⊥
unfolding zeros store.open' store.begin_write store.begin_read store.deliver_request store.deliver_reply store.lose open_refusal write_refusal
    read_refusal delivery_refusal long_enough press_fits turns sound scalars_sound key_in_range server_sound entry_sound log_sound state_allowed
    uses request_sound reply_sound content_sound link_sound received_sound client_sound write_sound read_sound open_sound records_sound all_below
    any_below sum_below link_at put_link first_from last_below appended log.entered begun_write begun_read on_set on_new_set on_enter on_new_enter
    on_which_keys on_request_in request_delivered on_set_done on_keys on_reply_in reply_delivered link_lost
not-anew claim =
    let run = claim (opening 2 2 2 (1200 ∷ 30 ∷ [])) zeros 2 2 2 (1200 ∷ 30 ∷ []) refl steps 0 0 in
    let one : ◌≡◌ {A = ℕ} 1 0 = ap count (run.1.1.1.1.1.1.1.1.0 refl refl) in
    omega arith
