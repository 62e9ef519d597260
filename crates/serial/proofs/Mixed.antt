-- What today's steps keep, and the accepted openings and begins of the former rules, the mixed machine keeps: one law for every claim.
use Prim.Native.Nat.{ℕ}
use mathlib.Core.List.{List}
use Rattle.tables.specs.Tables.{Tables}
use Rattle.rules.specs.Answer.{Ok}
use Rattle.rules.specs.Answers.{left}
use Rattle.rules.specs.Open as rules
use Rattle.rules.specs.Begin.{begun_write}
use Rattle.refusals.specs.Steps.{badge_of, open', begin_write, begin_read}
use Rattle.refusals.specs.Former.{former_open_refusal, former_write_refusal, former_read_refusal, formerly_begun_read}
use Rattle.refusals.specs.Former.{former_open, former_begin_write, former_begin_read}
use Rattle.refusals.specs.Either.{by_former}
use Rattle.keeping.specs.Accepted.{Openable, former_openable, Writable, former-writable, Readable, former-readable}
use Rattle.claim.specs.Steps.{Step, opening, beginning-write, beginning-read, opened, begun-write, begun-read, leaving, Played, play}
use Rattle.claim.specs.Former.{MixedStep, today, former-opening, former-write, former-read, mixed}

-- of the tables that a step finds and of what it played
module _ (P : Played → Type 0) (t : Tables) where
  pub record Keeps : Type 0 where
    pub now : (step : Step) → P (play step t)
    pub opens : (method k p : ℕ) (setpoints : List ℕ) → Openable method k p setpoints t →
        P (leaving (opened method k p setpoints) (left Ok (rules.opened method k p setpoints t)))
    pub writes : (q mask badge : ℕ) (setpoints : List ℕ) → Writable q mask setpoints t →
        P (leaving (begun-write q mask badge setpoints) (left Ok (begun_write q mask (badge_of badge) setpoints t)))
    pub reads : (q mask : ℕ) → Readable q mask t → P (leaving (begun-read q mask) (left Ok (formerly_begun_read q mask t)))

  pub by_rules : Keeps → (step : MixedStep) → P (mixed step t)
  unfolding former_open former_begin_write former_begin_read
  by_rules k (today step) = k.now step
  by_rules k (former-opening method k' p setpoints) =
      by_former (λ x. P (leaving (opened method k' p setpoints) x)) (former_open_refusal method k' p setpoints t)
      (left Ok (rules.opened method k' p setpoints t)) (open' method k' p setpoints t)
      (λ e. k.opens method k' p setpoints (former_openable method k' p setpoints t e))
      (k.now (opening method k' p setpoints))
  by_rules k (former-write q mask badge setpoints) =
      by_former (λ x. P (leaving (begun-write q mask badge setpoints) x)) (former_write_refusal q mask setpoints t)
      (left Ok (begun_write q mask (badge_of badge) setpoints t)) (begin_write q mask badge setpoints t)
      (λ e. k.writes q mask badge setpoints (former-writable q mask setpoints t e))
      (k.now (beginning-write q mask badge setpoints))
  by_rules k (former-read q mask) =
      by_former (λ x. P (leaving (begun-read q mask) x)) (former_read_refusal q mask t)
      (left Ok (formerly_begun_read q mask t)) (begin_read q mask t)
      (λ e. k.reads q mask (former-readable q mask t e))
      (k.now (beginning-read q mask))
