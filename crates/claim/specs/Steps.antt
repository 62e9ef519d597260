-- "Demand 3 is a single claim about a whole list of steps": the steps with their arguments, and what playing a list of them tells.
use Rattle.std.specs.Prelude.{ℕ, List, [], ◌∷◌}
use Rattle.tables.specs.Tables.{Tables}
use Rattle.rules.specs.Answer.{Answer}
use Rattle.rules.specs.declared.Delivered.{Delivered}
use Rattle.rules.specs.Answers.{Left, Arrived}
use Rattle.refusals.specs.Steps.{open', begin_write, begin_read, deliver_request, deliver_reply, lose, resend}

-- "The list holds, in any order and with any arguments, begins of a WRITE, begins of a READ, deliveries of a request and deliveries of a reply,
-- refused ones and refused openings too." "Row, shown setpoints and real time must hold with losses too." The numbers are those of `store`'s steps.
pub data Step : Type 0 where
  opening : (method k p : ℕ) → List ℕ → Step
  beginning-write : (client mask badge : ℕ) → List ℕ → Step
  beginning-read : (client mask : ℕ) → Step
  request : (client target : ℕ) → Step
  reply : (client target : ℕ) → Step
  losing : (client target : ℕ) → Step
  resending : (client target : ℕ) → Step

-- "Its words go by steps and answers": a step and its answer
pub data Event : Type 0 where
  opened : (method k p : ℕ) → List ℕ → Answer → Event
  begun-write : (client mask badge : ℕ) → List ℕ → Answer → Event
  begun-read : (client mask : ℕ) → Answer → Event
  requested : (client target : ℕ) → Answer → Event
  replied : (client target : ℕ) → Delivered → Event
  lost : (client target : ℕ) → Answer → Event
  resent : (client target : ℕ) → Answer → Event

-- "and by the tables only for the reply that answers a request": the tables that the step left stand beside it
pub record Played : Type 0 where
  pub event : Event
  pub tables : Tables

abbrev pub leaving : (Answer → Event) → Left → Played
leaving event x = record { event = event x.answer; tables = x.tables }

abbrev pub arriving : (Delivered → Event) → Arrived → Played
arriving event x = record { event = event x.delivered; tables = x.tables }

-- A machine plays one step, of a type of steps of its own.
abbrev pub Machine : Type 0 → Type 0
Machine S = S → Tables → Played

-- the store's machine: its seven public steps
abbrev pub play : Machine Step
play (opening method k p setpoints) t = leaving (opened method k p setpoints) (open' method k p setpoints t)
play (beginning-write q mask badge setpoints) t = leaving (begun-write q mask badge setpoints) (begin_write q mask badge setpoints t)
play (beginning-read q mask) t = leaving (begun-read q mask) (begin_read q mask t)
play (request q i) t = leaving (requested q i) (deliver_request q i t)
play (reply q i) t = arriving (replied q i) (deliver_reply q i t)
play (losing q i) t = leaving (lost q i) (lose q i t)
play (resending q i) t = leaving (resent q i) (resend q i t)

-- "The first gets the tables that an accepted opening left, each later one those that the step before it left"
abbrev pub run : {S : Type 0} → Machine S → List S → Tables → List Played
run machine [] t = []
run machine (step ∷ steps) t = let x = machine step t in x ∷ run machine steps x.tables

-- the tables that a list of played steps leaves: those of the last, or those that it began with
abbrev pub left_by : List Played → Tables → Tables
left_by [] t = t
left_by (x ∷ xs) t = left_by xs x.tables
