-- Of specs/Outcome: what cites a theorem there that a changed definition can make fail.
use Rattle.std.specs.Prelude.{ℕ, ◌+◌, ◌≡◌, refl, cond, List, set, eqb, ltb}
use Rattle.ranges.specs.Tests.{by-test}
use Rattle.keys.specs.declared.Key.{Key}
use Rattle.keys.specs.Keys.{key_word}
use Rattle.tables.specs.Layout.{count_at, held_field, entries_field, step_field, server_places, log_places, put_version_word, put_value, put_entry}
use Rattle.tables.specs.Links.{put_link}
use Rattle.tables.specs.Tables.{Tables, tables_of, entries_of, held_of, state_of, record_of, content_at}
use Rattle.tables.specs.declared.links.Contents.{Contents}
use Rattle.tables.specs.declared.links.Content.{Content}
use Rattle.tables.specs.declared.links.Content.TheVariants.{Nothing, Request, Reply, Lost}
use Rattle.server.specs.Held.{appended, first_bearing, holds}
use Rattle.coordinator.specs.Log.{entered, first_entry, has_key}
use Rattle.rules.specs.Answer.{Answer}
use Rattle.rules.specs.Answer.{Ok, Refused}
use Rattle.rules.specs.Answers.{Left, left}
use Rattle.rules.specs.Common.{writing, entering, asking_keys, asking_setpoints, reply, tagged_record}
use Rattle.rules.specs.Request.{got_from, holding, on_set, on_new_set, on_enter, on_new_enter, on_which_keys, on_get, on_get_all, on_request_in}
use Rattle.rules.specs.Request.{on_request, request_delivered}
use Rattle.commutation.specs.Outcome.{enter-played, get-played, outcome, outcome_in, outcome_of, played, set-played}

-- `rules/Request` delivers so, on any tables.
module _ (q i : ℕ) (t : Tables) where
  module _ (w : Contents) where
    in-played : (state : ℕ) → on_request_in state w q i t ≡ played (outcome_in state w q i t) q i t
    unfolding on_request_in on_which_keys on_get_all outcome_in
    in-played state =
        by-test (eqb state writing) (λ e. rw e (set-played q i t w))
        (λ a. by-test (eqb state entering) (λ e. rw (a, e) (enter-played q i t w))
        (λ b. by-test (eqb state asking_keys) (λ e. rw (a, b, e))
        (λ c. by-test (eqb state asking_setpoints) (λ e. rw (a, b, c, e) (get-played q i t w)) (λ e. rw (a, b, c, e)))))

  content-played : (c : Content) → on_request c q i t ≡ played (outcome_of c q i t) q i t
  content-played Nothing = refl
  content-played (Request w) = in-played w (state_of t q)
  content-played (Reply w) = refl
  content-played Lost = refl

  pub outcome-played : request_delivered q i t ≡ played (outcome q i t) q i t
  unfolding request_delivered
  outcome-played = content-played (content_at t q i)
