-- Any fair machine whose every step keeps the tie of records and history has the register's order: the one induction over lists of steps.
use Rattle.std.specs.Prelude.{ℕ, ◌≡◌, List, [], ◌∷◌}
use Rattle.std.proofs.Common.{subst}
use Rattle.tables.specs.Tables.{Tables, step_of}
use Rattle.listing.specs.Register.{register}
use Rattle.claim.specs.Steps.{Event, Played, Machine, run, left_by}
use Rattle.claim.specs.History.{History, opened_with, after, history, BehindOpenings}
use Rattle.claim.specs.Consequences.{accepted}
use Rattle.serial.proofs.Openings.{Starts}
use Rattle.serial.proofs.Fair.{Standing}
use Rattle.serial.proofs.Machines as fair
use Rattle.serial.proofs.Machines.{FairMachine, stands}
use Rattle.listed_order.specs.Order.{numbered, step_numbers, SameOrder}
use Rattle.register_order.specs.Agreement.{Agrees, same_order}

-- A step keeps the tie, and the tables' step number is that of the steps accepted.
pub record Follows (t : Tables) (h : History) (numbers : List ℕ) (x : Played) : Type 0 where
  pub agrees : Agrees x.tables (after x.event h) (numbered x.event numbers (step_of t))
  pub step : step_of x.tables ≡ accepted x.event (step_of t)

-- Tables that an accepted opening left: nothing is listed and nothing is told.
pub record Started (h : History) (t : Tables) : Type 0 where
  pub agrees : Agrees t h []
  pub step : step_of t ≡ 1

-- A fair machine keeps the tie where its openings start on any tables, and its every step follows, on tables that stand as demand 3
-- has them.
pub record Following {S : Type 0} (machine : Machine S) : Type 0 where
  pub fair : FairMachine machine
  pub starts : (step : S) (t : Tables) → Starts Started (machine step t).event (machine step t).tables
  pub follows : (step : S) (floor : ℕ → ℕ) (t : Tables) (h : History) (numbers : List ℕ) → Standing floor t h → Agrees t h numbers →
      Follows t h numbers (machine step t)

module _ {S : Type 0} (machine : Machine S) (m : Following machine) where
  run_agrees : (steps : List S) (floor : ℕ → ℕ) (t : Tables) (h : History) (numbers : List ℕ) → Standing floor t h → Agrees t h numbers →
      let played = run machine steps t in
      Agrees (left_by played t) (history played h) (step_numbers played numbers (step_of t))
  run_agrees [] floor t h numbers s a = a
  run_agrees (step ∷ steps) floor t h numbers s a =
      let x = machine step t in
      let f = m.follows step floor t h numbers s a in
      let s' = stands machine m.fair step floor t h s in
      rw f.step
      at (run_agrees steps _ x.tables (after x.event h) (numbered x.event numbers (step_of t)) s' f.agrees)

  -- the tie at the end of the list
  ends : BehindOpenings machine (λ start played h. Agrees (left_by played start) (history played h) (step_numbers played [] 1))
  ends first t method k p setpoints e steps =
      let start = (machine first t).tables in
      let s : Started (opened_with method setpoints) start = subst (λ (x : Event). Starts Started x start) e (m.starts first t) in
      let begins : fair.Started (opened_with method setpoints) start =
      subst (λ (x : Event). Starts fair.Started x start) e (m.fair.starts first t) in
      rw s.step at (run_agrees steps (λ q. 0) start (opened_with method setpoints) [] (begins.standing (λ q. 0)) s.agrees)

  pub in_order : SameOrder register machine
  in_order first t method k p setpoints e steps = same_order _ _ _ (ends first t method k p setpoints e steps)
