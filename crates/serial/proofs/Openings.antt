-- What is so behind every accepted opening of a machine: shown once from the facts of an opening, for every claim that begins there.
use Prim.Native.Nat.{ℕ}
use mathlib.Core.List.{List}
use Rattle.tables.specs.Tables.{Tables}
use Rattle.rules.specs.Answer.{Ok, Refused}
use Rattle.rules.specs.Answers.{left}
use Rattle.rules.specs.Open as rules
use Rattle.refusals.specs.Refusals.{open_refusal}
use Rattle.refusals.specs.Steps.{open'}
use Rattle.refusals.specs.Former.{former_open_refusal, former_open}
use Rattle.refusals.specs.Either.{by_refusal, by_former}
use Rattle.keeping.specs.Accepted.{Openable, openable, former_openable}
use Rattle.claim.specs.Steps.{Step, opening, beginning-write, beginning-read, request, reply, losing, resending, play}
use Rattle.claim.specs.Steps.{Event, opened, begun-write, begun-read, requested, replied, lost, resent}
use Rattle.claim.specs.Former.{MixedStep, today, former-opening, former-write, former-read, mixed}
use Rattle.claim.specs.History.{History, opened_with}

-- of the history that an opening begins and the tables that it leaves
module _ (P : History → Tables → Type 0) where
  -- where an event is an accepted opening
  abbrev pub Starts : Event → Tables → Type 0
  Starts (opened method k p setpoints Ok) t = P (opened_with method setpoints) t
  Starts (opened method k p setpoints (Refused n)) t = Unit {0}
  Starts (begun-write q mask badge setpoints answer) t = Unit {0}
  Starts (begun-read q mask answer) t = Unit {0}
  Starts (requested q i answer) t = Unit {0}
  Starts (replied q i d) t = Unit {0}
  Starts (lost q i answer) t = Unit {0}
  Starts (resent q i answer) t = Unit {0}

  -- by the facts of an opening, of the store's machine
  abbrev pub ByFacts : Type 0
  ByFacts =
      (method k p : ℕ) (setpoints : List ℕ) (t : Tables) → Openable method k p setpoints t →
      P (opened_with method setpoints) (rules.opened method k p setpoints t)

  pub play_starts : ByFacts → (step : Step) (t : Tables) → Starts (play step t).event (play step t).tables
  unfolding open'
  play_starts facts (opening method k p setpoints) t =
      by_refusal (λ x. Starts (opened method k p setpoints x.answer) x.tables) (open_refusal method k p setpoints t)
      (left Ok (rules.opened method k p setpoints t)) t
      (λ m e. tt)
      (λ e. facts method k p setpoints t (openable method k p setpoints t e))
  play_starts facts (beginning-write q mask badge setpoints) t = tt
  play_starts facts (beginning-read q mask) t = tt
  play_starts facts (request q i) t = tt
  play_starts facts (reply q i) t = tt
  play_starts facts (losing q i) t = tt
  play_starts facts (resending q i) t = tt

  -- and of the machine that opens by the former rules too
  pub mixed_starts : ByFacts → (step : MixedStep) (t : Tables) → Starts (mixed step t).event (mixed step t).tables
  unfolding former_open
  mixed_starts facts (today step) t = play_starts facts step t
  mixed_starts facts (former-opening method k p setpoints) t =
      by_former (λ x. Starts (opened method k p setpoints x.answer) x.tables) (former_open_refusal method k p setpoints t)
      (left Ok (rules.opened method k p setpoints t)) (open' method k p setpoints t)
      (λ e. facts method k p setpoints t (former_openable method k p setpoints t e))
      (play_starts facts (opening method k p setpoints) t)
  mixed_starts facts (former-write q mask badge setpoints) t = tt
  mixed_starts facts (former-read q mask) t = tt
