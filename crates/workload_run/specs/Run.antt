-- E2: the load played on lent tables, each of its steps written into a lent list.
use Rattle.std.specs.Prelude.{ℕ, ◌+◌, ◌*◌, cond, not, List, [], ◌∷◌, ltb, length}
use Rattle.ranges.specs.Turns.{turns}
use Rattle.tables.specs.Rows.{put_row}
use Rattle.tables.specs.Tables.{Tables}
use Rattle.soundness.specs.Sound.{sound}
use Rattle.schedule.specs.declared.Step.{Step}
use Rattle.schedule.specs.declared.Step.TheVariants.{Unreadable, Open, BeginWrite, BeginRead, Request, Reply, Lose, Resend}
use Rattle.workload.specs.declared.LoadStep.{LoadStep}
use Rattle.workload.specs.Next.{Next}
use Rattle.workload.specs.Next as next
use Rattle.workload.specs.Load.{load_played, next_step}
use Rattle.workload_run.specs.declared.Progress.{Progress}
use Rattle.workload_run.specs.Load.{Load}
use Rattle.workload_run.specs.Load.{Played, Refused}

-- a step as a row of the list: its kind, its client, its mask or target, its setpoint; a WRITE's badge is 0 and stands in no word.
-- What the load does not give, an opening, a loss and a resend among it, is a row of zeros.
abbrev pub step_width : ℕ
step_width = 4

abbrev pub step_words : Step → ℕ → List ℕ
step_words Unreadable setpoint = 0 ∷ 0 ∷ 0 ∷ 0 ∷ []
step_words (Open method servers clients) setpoint = 0 ∷ 0 ∷ 0 ∷ 0 ∷ []
step_words (BeginWrite client mask badge) setpoint = 0 ∷ client ∷ mask ∷ setpoint ∷ []
step_words (BeginRead client mask) setpoint = 1 ∷ client ∷ mask ∷ 0 ∷ []
step_words (Request client target) setpoint = 2 ∷ client ∷ target ∷ 0 ∷ []
step_words (Reply client target) setpoint = 3 ∷ client ∷ target ∷ 0 ∷ []
step_words (Lose client target) setpoint = 0 ∷ 0 ∷ 0 ∷ 0 ∷ []
step_words (Resend client target) setpoint = 0 ∷ 0 ∷ 0 ∷ 0 ∷ []

abbrev pub listed : List ℕ → ℕ → LoadStep → List ℕ
listed list n s = put_row step_width list n (step_words s.step s.setpoint)

-- the tables behind a pick: a step that is given is played
abbrev pub after_pick : Next → Tables → Tables
after_pick (next.Refused n) t = t
after_pick next.End t = t
after_pick (next.Given seed s) t = (load_played t s).tables

-- what a pick gives, with the tables behind it
pub record Taken : Type 0 where
  pub next : Next
  pub tables : Tables

abbrev pub taken : Next → Tables → Taken
taken n t = record { next = n; tables = t }

unfoldable pub take_step : Tables → ℕ → Taken
take_step t seed = let n = next_step t seed in taken n (after_pick n t)

-- a load between two picks: how many steps it has given and its seed, the list of them and the tables
pub record Running : Type 0 where
  pub progress : Progress
  pub list : List ℕ
  pub tables : Tables

abbrev pub running : Progress → List ℕ → Tables → Running
running p list t = record { progress = p; list = list; tables = t }

abbrev pub begun : ℕ → Progress
begun seed = record { given = 0; seed = seed }

-- a step that is given counts and is listed; where none is given, all stays as it is
abbrev pub gone_on : Next → Progress → Progress
gone_on (next.Refused n) p = p
gone_on next.End p = p
gone_on (next.Given seed s) p = record { given = p.given + 1; seed = seed }

abbrev pub listed_next : Next → ℕ → List ℕ → List ℕ
listed_next (next.Refused n) at list = list
listed_next next.End at list = list
listed_next (next.Given seed s) at list = listed list at s

unfoldable pub pick_one : Running → Running
pick_one x =
    let y = take_step x.tables x.progress.seed in
    running (gone_on y.next x.progress) (listed_next y.next x.progress.given x.list) y.tables

-- "The load ends when no step is acceptable or the wanted length is reached."
abbrev pub load : ℕ → Running → Running
load length x = turns (λ n y. pick_one y) length x

-- what playing a load answers, and what it leaves
pub record Loaded : Type 0 where
  pub answer : Load
  pub list : List ℕ
  pub tables : Tables

abbrev pub loaded : Load → List ℕ → Tables → Loaded
loaded a list t = record { answer = a; list = list; tables = t }

-- how many steps were given, and which seed is next
abbrev pub ended : Running → Loaded
ended x = loaded (Played x.progress.given x.progress.seed) x.list x.tables

-- 2 "tables not sound", then 12 "lent space too small for … a list wanted"
unfoldable pub play_load : ℕ → ℕ → List ℕ → Tables → Loaded
play_load seed wanted list t =
    cond (not (sound t)) (loaded (Refused 2) list t)
    (cond (ltb (length list) (step_width * wanted)) (loaded (Refused 12) list t)
    (ended (load wanted (running (begun seed) list t))))
