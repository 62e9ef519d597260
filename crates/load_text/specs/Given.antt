-- The load in print, turn by turn: first its opening, then a step a turn.
use Rattle.std.specs.Prelude.{ℕ, zero, suc, ◌-◌, ◌≤◌, ◌≡◌, List, [], ◌++◌, length, replicate}
use Rattle.tables.specs.Tables.{Tables, servers_of}
use Rattle.rules.specs.Answer.{Answer}
use Rattle.rules.specs.Answer.{Ok, Refused}
use Rattle.rules.specs.Answers.{Left}
use Rattle.refusals.specs.Steps.{open'}
use Rattle.schedule.specs.declared.Step.TheVariants.{Open}
use Rattle.printing.specs.StepTexts.{step_line, refusal_text}
use Rattle.printing.specs.Printed.{Printed}
use Rattle.workload.specs.Next.{Next}
use Rattle.workload.specs.Next as next
use Rattle.workload_run.specs.Run.{take_step}
use Rattle.load_text.specs.declared.Wanted.{Wanted}
use Rattle.load_text.specs.Asked.{Asked}
use Rattle.load_text.specs.Asked.{Unreadable, Load}
use Rattle.load_text.specs.declared.Giving.{Giving}

-- what a turn prints, how many steps are still wanted behind it, its seed then, and the tables
pub record Given : Type 0 where
  pub text : List ℕ
  pub left : ℕ
  pub seed : ℕ
  pub tables : Tables

-- `no` and the number, and nothing more
abbrev pub refusing : ℕ → Tables → Given
refusing number t = record { text = refusal_text number; left = 0; seed = 0; tables = t }

-- the setpoints of the opening are all 0
abbrev pub zeros : Wanted → List ℕ
zeros w = replicate w.servers 0

abbrev pub opening : Wanted → Tables → Left
opening w t = open' w.method w.servers w.clients (zeros w) t

-- by the answer of the opening: its line is the first
abbrev pub opened_by : Wanted → Answer → Tables → Given
opened_by w Ok t =
    let first = step_line (Open w.method w.servers w.clients) (zeros w) in
    record { text = first; left = w.steps; seed = w.seed; tables = t }
opened_by w (Refused number) t = refusing number t

-- 13 "line not readable"
abbrev pub begins : Asked → Tables → Given
begins Unreadable t = refusing 13 t
begins (Load w) t = let l = opening w t in opened_by w l.answer l.tables

-- by what a pick gives: the step as a line, with the same setpoint for each server; where there is none, no more are wanted
abbrev pub picked_by : Next → ℕ → ℕ → ℕ → Tables → Given
picked_by (next.Refused number) k left seed t = record { text = []; left = 0; seed = seed; tables = t }
picked_by next.End k left seed t = record { text = []; left = 0; seed = seed; tables = t }
picked_by (next.Given seed' s) k left seed t =
    record { text = step_line s.step (replicate k s.setpoint); left = left - 1; seed = seed'; tables = t }

-- then a step a turn
unfoldable pub picks : ℕ → ℕ → Tables → Given
picks left seed t = let y = take_step t seed in picked_by y.next (servers_of t) left seed y.tables

-- all that is printed behind the opening of a load, of so many steps at most
unfoldable pub lines_from : ℕ → ℕ → Tables → List ℕ
lines_from zero seed t = []
lines_from (suc left) seed t = let g = picks (suc left) seed t in g.text ++ lines_from left g.seed g.tables

-- what is still to be printed behind a turn
abbrev pub rest_of : Given → List ℕ
rest_of g = lines_from g.left g.seed g.tables

-- all that the program prints
abbrev pub load_text : Asked → Tables → List ℕ
load_text asked t = let g = begins asked t in g.text ++ rest_of g

-- A turn in code: its text is printed from a place on, and all else is as it says.
pub record Gave (given : Given) (at : ℕ) (out : List ℕ) (r : Giving) (out' : List ℕ) (t' : Tables) : Type 0 where
  pub printed : Printed out at given.text r.used out'
  pub short : r.used ≤ length out
  pub left : r.left ≡ given.left
  pub seed : r.seed ≡ given.seed
  pub tables : t' ≡ given.tables
