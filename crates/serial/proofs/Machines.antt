-- Any machine whose every step is fair has demand 3, and what follows beside it: the one induction over lists of steps.
use Prim.Native.Nat.{ℕ}
use mathlib.Core.Path.{◌≡◌, refl, subst}
use mathlib.Core.List.{List, [], ◌∷◌}
use Rattle.ranges.specs.Each.{Each}
use Rattle.tables.specs.Tables.{Tables, step_of}
use Rattle.soundness.specs.Facts.{Sound, facts-sound}
use Rattle.claim.specs.Steps.{Event, Played, Machine, run}
use Rattle.claim.specs.History.{History, opened_with, after, history, BehindOpenings}
use Rattle.claim.specs.Claim.{Answers, Demand3}
use Rattle.claim.specs.Consequences.{Consequences, Besides}
use Rattle.serial.proofs.Owed.{floor_after}
use Rattle.serial.proofs.HistoryOk.{HistoryOk, claimed}
use Rattle.serial.proofs.HistoryKept.{fresh_ok, after-ok}
use Rattle.serial.proofs.Fair.{Standing, Fair}
use Rattle.serial.proofs.Openings.{Starts}

-- Tables that an accepted opening left: nothing has happened yet, whatever the floors.
pub record Started (h : History) (t : Tables) : Type 0 where
  pub standing : (floor : ℕ → ℕ) → Standing floor t h
  pub step : step_of t ≡ 1

-- A machine is fair where its openings start on any tables, and its every step is fair and leaves sound tables.
pub record FairMachine {S : Type 0} (machine : Machine S) : Type 0 where
  pub starts : (step : S) (t : Tables) → Starts Started (machine step t).event (machine step t).tables
  pub fair : (step : S) (floor : ℕ → ℕ) (t : Tables) (h : History) → Standing floor t h → Fair floor h (step_of t) (machine step t)
  pub sound : (step : S) (t : Tables) → Sound t → Sound (machine step t).tables

-- Along a whole list.
pub record Ran (start : Tables) (played : List Played) (h : History) (n : ℕ) : Type 0 where
  pub tags_at : ℕ → ℕ
  pub floor : ℕ → ℕ
  pub history : HistoryOk tags_at floor h
  pub answered : Each Answers played
  pub consequences : Consequences start played n

module _ {S : Type 0} (machine : Machine S) (m : FairMachine machine) where
  -- a step leaves tables that stand as those that it found
  pub stands : (step : S) (floor : ℕ → ℕ) (t : Tables) (h : History) → Standing floor t h →
      let x = machine step t in
      Standing (floor_after x.event h floor) x.tables (after x.event h)
  stands step floor t h s =
      let fair = m.fair step floor t h s in
      record { sound = m.sound step t s.sound; tied = fair.kept.1; budget = fair.budget }

  run_ok : (steps : List S) (tags_at floor : ℕ → ℕ) (t : Tables) (h : History) → Standing floor t h → HistoryOk tags_at floor h →
      Ran t (run machine steps t) (history (run machine steps t) h) (step_of t)
  run_ok [] tags_at floor t h s ok = record {
    tags_at = tags_at;
    floor = floor;
    history = ok;
    answered = tt;
    consequences = record { room = tt; counted = refl; sound = tt };
  }
  run_ok (step ∷ steps) tags_at floor t h s ok =
      let x = machine step t in
      let fair = m.fair step floor t h s in
      let next = after-ok tags_at floor h ok x.event fair.kept.0 in
      let standing = stands step floor t h s in
      let rest = run_ok steps next.0 (floor_after x.event h floor) x.tables (after x.event h) standing next.1 in
      record {
        tags_at = rest.tags_at;
        floor = rest.floor;
        history = rest.history;
        answered = (fair.answers, rest.answered);
        consequences = record {
          room = (fair.room, rest.consequences.room);
          counted = rw fair.step at rest.consequences.counted;
          sound = (facts-sound x.tables standing.sound, rest.consequences.sound);
        };
      }

  ran : BehindOpenings machine (λ start played h. Ran start played (history played h) 1)
  ran first t method k p setpoints e steps =
      let start = (machine first t).tables in
      let s : Started (opened_with method setpoints) start = subst (λ (x : Event). Starts Started x start) e (m.starts first t) in
      rw s.step at (run_ok steps (λ c. 0) (λ q. 0) start (opened_with method setpoints) (s.standing (λ q. 0)) (fresh_ok (λ q. 0) _ _))

  pub demand3 : Demand3 machine
  demand3 first t method k p setpoints e steps =
      let r = ran first t method k p setpoints e steps in
      claimed r.tags_at r.floor _ r.history _ r.answered

  pub besides : Besides machine
  besides first t method k p setpoints e steps = (ran first t method k p setpoints e steps).consequences
