-- What a delivered reply shows, by its outcome: the words that the client's row has of the servers of a READ that has ended, with the tags
-- beside them; else nothing.
use Rattle.std.specs.Prelude.{ℕ, ◌≡◌, Option, None, Some, List, replicate}
use Rattle.std.proofs.Common.{◌∙◌, ap}
use Rattle.tables.specs.Tables.{Tables}
use Rattle.rules.specs.declared.Arrival.{Arrival}
use Rattle.rules.specs.declared.Delivered.{Delivered}
use Rattle.rules.specs.Answers.{Arrived, arrived, nothing_shown}
use Rattle.rules.specs.Reply.{said, shown_setpoints, shown_badges}
use Rattle.reply_parts.specs.declared.Outcome.{Outcome}

abbrev pub plainly : Arrival → Outcome
plainly a = record { arrival = a; shown = None }

-- the outcome of a READ that has ended
abbrev pub ended : Arrival → ℕ → Outcome
ended a mask = record { arrival = a; shown = Some mask }

-- an answer with the words of a mask's servers beside it, or with nothing
abbrev pub shown_beside : Option ℕ → Arrival → List ℕ → List ℕ → ℕ → Delivered
shown_beside None a tags clients q = nothing_shown a
shown_beside (Some mask) a tags clients q = record {
  arrival = a;
  setpoints = shown_setpoints clients q mask;
  tags = tags;
  badges = shown_badges clients q mask;
}

abbrev pub shown_by : Outcome → List ℕ → List ℕ → ℕ → Delivered
shown_by o tags clients q = shown_beside o.shown o.arrival tags clients q

-- x is what the delivery leaves, shown by the outcome; the row of tags is the answer's
pub record Shows (x : Arrived) (o : Outcome) (tags : List ℕ) (q : ℕ) (t : Tables) : Type 0 where
  pub leaves : arrived (shown_by o tags t.clients q) t ≡ x
  pub tagged : tags ≡ x.delivered.tags

module _ (tags : List ℕ) (q : ℕ) {x : Arrived} {t : Tables} where
  pub plain-shows : {o : Outcome} {a : Arrival} → o ≡ plainly a → tags ≡ replicate 16 0 → said a t ≡ x → Shows x o tags q t
  plain-shows e z f = record { leaves = rw e f; tagged = z ∙ ap (λ (y : Arrived). y.delivered.tags) f }

  pub ended-shows : (a : Arrival) (mask : ℕ) → arrived (shown_by (ended a mask) tags t.clients q) t ≡ x → Shows x (ended a mask) tags q t
  ended-shows a mask f = record { leaves = f; tagged = ap (λ (y : Arrived). y.delivered.tags) f }
