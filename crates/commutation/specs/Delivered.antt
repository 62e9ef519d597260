-- The law of `rules/Request: request_delivered`, on arbitrary tables: two requests at their targets, which are different, may be delivered
-- in either order, be they accepted or refused.
use Rattle.std.specs.Prelude.{ℕ, ◌+◌, ◌≤◌, ◌<◌, ◌≡◌, refl, List, length}
use Rattle.std.proofs.Common.{ap, sym, ◌∙◌, arith}
use Rattle.tables.specs.Layout.{count_at, count_words, step_field}
use Rattle.tables.specs.Tables.{Tables, step_of}
use Rattle.rules.specs.Answer.{Ok}
use Rattle.rules.specs.Answers.{Left}
use Rattle.rules.specs.Common.{counted}
use Rattle.rules.specs.Request.{request_delivered}
use Rattle.keeping.specs.Moves.{counted_step}
use Rattle.commutation.specs.Equal.{differ}
use Rattle.commutation.specs.Outcome.{Outcome, refuses, accepts, answer_of, left_of, outcome}
use Rattle.commutation.specs.Swap.{OutcomeFits, step_swap, left_swap}
use Rattle.commutation.specs.Local.{AtTarget, outcome_fits, stored-count, changed-count}

-- the tables that two deliveries leave, one behind the other
abbrev pub both : (q i r j : ℕ) → Tables → Tables
both q i r j t = (request_delivered r j (request_delivered q i t).tables).tables

module _ (q i r j : ℕ) (t : Tables) (here : AtTarget q i t) (there : AtTarget r j t) (apart : i ≡ j → ⊥) where
  abbrev pub o : Outcome
  o = outcome q i t

  abbrev pub o' : Outcome
  o' = outcome r j t

-- What a delivery does to the counts: method, servers and clients stay, and an accepted one counts a step.
module _ (q i : ℕ) (t : Tables) where
  pub left-count : (o : Outcome) → OutcomeFits o i → (f : ℕ) → f < step_field → count_at (left_of o q i t).counts f ≡ count_at t.counts f
  left-count (refuses n) fits f l = refl
  left-count (accepts content s) fits f l =
      changed-count i s fits f (λ e. omega arith) (λ z e. omega arith) t.counts (λ e. omega arith)

  pub left_step : (o : Outcome) → OutcomeFits o i → answer_of o ≡ Ok → count_words ≤ length t.counts → step_of (left_of o q i t) ≡ step_of t + 1
  left_step (refuses n) fits e long = differ (cc)
  left_step (accepts content s) fits e long =
      ap (λ (counts : List ℕ). count_at counts step_field) (sym (step_swap i s t.counts))
      ∙ stored-count i s fits step_field (λ z. omega arith) (λ z d. omega arith) (counted t.counts)
      ∙ counted_step t.counts long
