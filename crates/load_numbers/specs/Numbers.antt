-- What a pick and a load answer, as the numbers by which they cross to other languages.
use Rattle.std.specs.Prelude.{ℕ, ◌≡◌, List, get_or}
use Rattle.tables.specs.Tables.{Tables}
use Rattle.workload.specs.declared.LoadStep.{LoadStep}
use Rattle.workload.specs.Next.{Next}
use Rattle.workload.specs.Next as next
use Rattle.workload_run.specs.Load.{Load}
use Rattle.workload_run.specs.Load as load
use Rattle.workload_run.specs.Run.{step_words, Loaded, loaded, play_load}
use Rattle.load_numbers.specs.declared.LoadPick.{LoadPick}
use Rattle.load_numbers.specs.declared.LoadEnd.{LoadEnd}

-- a step with the seed behind it, by the words of its row in a list
abbrev pub pick_words : ℕ → List ℕ → LoadPick
pick_words seed w = record { answer = 0; seed = seed; kind = get_or w 0 0; client = get_or w 1 0; second = get_or w 2 0; setpoint = get_or w 3 0 }

abbrev pub pick_of : ℕ → LoadStep → LoadPick
pick_of seed s = pick_words seed (step_words s.step s.setpoint)

-- no step: the seed as it was
abbrev pub no_pick : ℕ → ℕ → LoadPick
no_pick answer seed = record { answer = answer; seed = seed; kind = 0; client = 0; second = 0; setpoint = 0 }

-- the number of the refusal; 256 where no step is acceptable
abbrev pub next_numbers : ℕ → Next → LoadPick
next_numbers seed (next.Refused n) = no_pick n seed
next_numbers seed next.End = no_pick 256 seed
next_numbers seed (next.Given seed' s) = pick_of seed' s

-- 0, how many steps were given, and the next seed; or the number of the refusal and the seed as it was
abbrev pub load_numbers : ℕ → Load → LoadEnd
load_numbers seed (load.Played steps seed') = record { answer = 0; steps = steps; seed = seed' }
load_numbers seed (load.Refused n) = record { answer = n; steps = 0; seed = seed }

-- what a load leaves, its answer as numbers
pub record LoadCrossed : Type 0 where
  pub end : LoadEnd
  pub list : List ℕ
  pub tables : Tables

abbrev pub load_crossed : LoadEnd → List ℕ → Tables → LoadCrossed
load_crossed end list t = record { end = end; list = list; tables = t }

abbrev pub in_numbers : ℕ → Loaded → LoadCrossed
in_numbers seed x = load_crossed (load_numbers seed x.answer) x.list x.tables

pub load-crossed : (seed wanted : ℕ) (list : List ℕ) (t : Tables) {a : Load} {e : LoadEnd} {list' : List ℕ} {t' : Tables} →
    e ≡ load_numbers seed a →
    loaded a list' t' ≡ play_load seed wanted list t → load_crossed e list' t' ≡ in_numbers seed (play_load seed wanted list t)
load-crossed seed wanted list t d f = rw (d, ← f)
