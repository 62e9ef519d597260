-- Of specs/Delivered: what cites a theorem there that a changed definition can make fail.
use Rattle.std.specs.Prelude.{ℕ, ◌+◌, ◌≤◌, ◌<◌, ◌≡◌, refl, List, length}
use Rattle.std.proofs.Common.{ap, sym, ◌∙◌, arith}
use Rattle.tables.specs.Layout.{count_at, count_words, step_field}
use Rattle.tables.specs.Tables.{Tables, step_of}
use Rattle.rules.specs.Answer.{Ok}
use Rattle.rules.specs.Answers.{Left}
use Rattle.rules.specs.Common.{counted}
use Rattle.rules.specs.Request.{request_delivered}
use Rattle.keeping.specs.Moves.{counted_step}
use Rattle.commutation.specs.Equal.{differ}
use Rattle.commutation.proofs.Outcome.{outcome-played}
use Rattle.commutation.specs.Outcome.{Outcome, refuses, accepts, answer_of, left_of, outcome}
use Rattle.commutation.specs.Swap.{OutcomeFits, step_swap, left_swap}
use Rattle.commutation.proofs.Local.{local}
use Rattle.commutation.specs.Local.{AtTarget, outcome_fits, stored-count, changed-count}
use Rattle.commutation.specs.Delivered.{both, left-count, left_step, o, o'}

-- what a delivery answers and leaves, by its outcome
module _ (q i : ℕ) (t : Tables) where
  answer_of_lem : (request_delivered q i t).answer ≡ answer_of (outcome q i t)
  answer_of_lem = ap (λ (x : Left). x.answer) (outcome-played q i t)

  left_of_lem : (request_delivered q i t).tables ≡ left_of (outcome q i t) q i t
  left_of_lem = ap (λ (x : Left). x.tables) (outcome-played q i t)

module _ (q i r j : ℕ) (t : Tables) (here : AtTarget q i t) (there : AtTarget r j t) (apart : i ≡ j → ⊥) where
  outcome-behind : outcome r j (request_delivered q i t).tables ≡ (o' q i r j t here there apart)
  outcome-behind =
      ap (outcome r j) (left_of_lem q i t) ∙ local q i r j apart here.target (o q i r j t here there apart) (outcome_fits q i t here) t there

  -- the second answers as it would without the first
  pub answer-behind : (request_delivered r j (request_delivered q i t).tables).answer ≡ (request_delivered r j t).answer
  answer-behind = answer_of_lem r j (request_delivered q i t).tables ∙ ap answer_of outcome-behind ∙ sym (answer_of_lem r j t)

  both_left : both q i r j t ≡ left_of (o' q i r j t here there apart) r j (left_of (o q i r j t here there apart) q i t)
  both_left =
      left_of_lem r j (request_delivered q i t).tables
      ∙ ap (λ (x : Outcome). left_of x r j (request_delivered q i t).tables) outcome-behind
      ∙ ap (left_of (o' q i r j t here there apart) r j) (left_of_lem q i t)

-- Delivered in the other order, they leave equal tables.
pub delivered_swap : (q i r j : ℕ) (t : Tables) → AtTarget q i t → AtTarget r j t → (i ≡ j → ⊥) → both r j q i t ≡ both q i r j t
delivered_swap q i r j t here there apart =
    both_left r j q i t there here (λ e. apart (sym e))
    ∙ left_swap i j apart q r here.target there.target (outcome q i t) (outcome r j t) t (outcome_fits q i t here)
    (outcome_fits r j t there)
    ∙ sym (both_left q i r j t here there apart)

-- What a delivery does to the counts: method, servers and clients stay, and an accepted one counts a step.
module _ (q i : ℕ) (t : Tables) where
  module _ (here : AtTarget q i t) where
    pub delivered-count : (f : ℕ) → f < step_field → count_at (request_delivered q i t).tables.counts f ≡ count_at t.counts f
    delivered-count f l =
        ap (λ (u : Tables). count_at u.counts f) (left_of_lem q i t) ∙ left-count q i t (outcome q i t) (outcome_fits q i t here) f l

    pub delivered_step : (request_delivered q i t).answer ≡ Ok → count_words ≤ length t.counts →
        step_of (request_delivered q i t).tables ≡ step_of t + 1
    delivered_step e long =
        ap step_of (left_of_lem q i t) ∙ left_step q i t (outcome q i t) (outcome_fits q i t here) (sym (answer_of_lem q i t) ∙ e) long
