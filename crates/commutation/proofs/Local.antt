-- Of specs/Local: what cites a theorem there that a changed definition can make fail.
use Rattle.std.specs.Prelude.{ℕ, ◌+◌, ◌≤◌, ◌<◌, ◌≡◌, refl, List, eqb, ltb}
use Rattle.std.proofs.Common.{ap, sym, ◌∙◌, arith, get_or-set_other}
use borrow.Author.Tests.{eqb-true, ltb-true, eq-eqb, ne_eqb}
use Rattle.ranges.specs.Tests.{either, by-test, by_equal}
use Rattle.ranges.specs.FirstLaws.{first-same}
use Rattle.keys.specs.Keys.{key_word}
use Rattle.tables.specs.Rows.{word_at, word_other}
use Rattle.tables.specs.Layout.{count_at, entries_field, held_field, step_field, server_places, log_places, version_word, version_badge}
use Rattle.tables.specs.Layout.{version_setpoint, value_width, value_row}
use Rattle.tables.specs.Values.{value_other}
use Rattle.tables.specs.Links.{targets}
use Rattle.tables.specs.LinkLaws.{link_other}
use Rattle.tables.specs.Tables.{Tables, entries_of, held_of, state_of, record_of, content_at}
use Rattle.tables.specs.declared.links.Contents.{Contents}
use Rattle.tables.specs.declared.links.Content.{Content}
use Rattle.tables.specs.declared.links.Content.TheVariants.{Nothing, Request, Reply, Lost}
use Rattle.tables.specs.declared.links.Link.{Link}
use Rattle.server.specs.Held.{bears, first_bearing, holds}
use Rattle.coordinator.specs.Log.{has_key}
use Rattle.rules.specs.Common.{writing, entering, asking_keys, asking_setpoints, coordinator}
use Rattle.rules.specs.Request.{holding}
use Rattle.keeping.specs.Moves.{counted_other}
use Rattle.commutation.specs.Outcome.{Storing, nothing, version, entry, Outcome, refuses, accepts, bump, changed, left_of}
use Rattle.commutation.specs.Outcome.{stored_counts, stored_keys, stored_values, stored_log}
use Rattle.commutation.specs.Outcome.{of_set, of_enter, of_get, outcome_in, outcome_of, outcome}
use Rattle.commutation.specs.Swap.{Fits, OutcomeFits}
use Rattle.commutation.specs.Local.{Asking, AtTarget, Same, changed-same, enter-same, get-same, holding-same, set_same}

-- Then the outcome is the same.
module _ (q i : ℕ) (t t' : Tables) (same : Same q i t t') where
  module _ (w : Contents) where
    in-same : (state : ℕ) → state_of t q ≡ state → Asking q i t → outcome_in state w q i t' ≡ outcome_in state w q i t
    unfolding outcome_in
    in-same state at asks =
        by-test (eqb state writing) (λ e. rw e (set_same q i t t' same w (asks.set_room (at ∙ eqb-true state writing e))))
        (λ a. by-test (eqb state entering) (λ e. rw (a, e) (enter-same q i t t' same w (asks.enter-target (at ∙ eqb-true state entering e))))
        (λ b. by-test (eqb state asking_keys) (λ e. rw (a, b, e, same.entries (asks.keys-target (at ∙ eqb-true state asking_keys e))))
        (λ c. by-test (eqb state asking_setpoints)
        (λ e. rw (a, b, c, e) (get-same q i t t' same w (asks.get_room (at ∙ eqb-true state asking_setpoints e))))
        (λ e. rw (a, b, c, e, holding-same q i t t' same)))))

  content-same : (c : Content) → content_at t q i ≡ c → AtTarget q i t → outcome_of c q i t' ≡ outcome_of c q i t
  content-same Nothing e there = refl
  content-same (Request w) e there = rw same.state (in-same w (state_of t q) refl (there.asking w e))
  content-same (Reply w) e there = refl
  content-same Lost e there = refl

  pub outcome-same : AtTarget q i t → outcome q i t' ≡ outcome q i t
  outcome-same there = rw same.content (content-same (content_at t q i) refl there)

-- A request at another target leaves tables that look the same.
module _ (q i r j : ℕ) (apart : i ≡ j → ⊥) where
  -- so its outcome is the one that it had
  pub local : i < targets → (o : Outcome) → OutcomeFits o i → (t : Tables) → AtTarget r j t → outcome r j (left_of o q i t) ≡ outcome r j t
  local below (refuses n) fits t there = refl
  local below (accepts content s) fits t there =
      outcome-same r j t (changed content s q i t) (changed-same q i r j apart below there.target content s fits t) there
