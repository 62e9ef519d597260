-- E2: "Dealers want the same rough traffic on every bench." Which step the load gives next, and the seed behind it.
use Rattle.std.specs.Prelude.{ℕ, ◌+◌, ◌-◌, ◌*◌, ◌/◌, ◌%◌, Bool, true, false, cond, List, eqb, ltb, length, get_or, replicate}
use Rattle.tables.specs.Links.{targets}
use Rattle.tables.specs.Tables.{Tables, servers_of, clients_of, count_of}
use Rattle.rules.specs.Open.{all_servers}
use Rattle.soundness.specs.Sound.{sound}
use Rattle.schedule.specs.declared.Step.{Step}
use Rattle.schedule.specs.declared.Step.TheVariants.{BeginWrite, BeginRead, Request, Reply}
use Rattle.printing.specs.declared.Word.{Word}
use Rattle.printing.specs.declared.Word.TheVariants as print
use Rattle.playing.specs.Played.{Played, played}
use Rattle.workload.specs.declared.LoadStep.{LoadStep}
use Rattle.workload.specs.Next.{Next}
use Rattle.workload.specs.Next as next
use Rattle.workload.specs.Passing.{passing}

-- "From a 32-bit seed the load advances by times 1,664,525 plus 1,013,904,223, modulo 2^32"
abbrev pub advance : ℕ → ℕ
advance seed = (seed * 1664525 + 1013904223) % 4294967296

-- "the new number, divided by 65,536, times the count of acceptable steps, divided by 65,536 again, both rounded down, picks the step"
abbrev pub index_by : ℕ → ℕ → ℕ
index_by number count = number / 65536 * count / 65536

-- a step of a schedule, and the setpoint of every server in it
abbrev pub load_step : Step → ℕ → LoadStep
load_step step setpoint = record { step = step; setpoint = setpoint }

-- "A WRITE's setpoints are all its count": the next count of its client; E4: "the load gives 0", its badge
abbrev pub write_of_all : Tables → ℕ → LoadStep
write_of_all t q = load_step (BeginWrite q (all_servers (servers_of t)) 0) (count_of t q + 1)

abbrev pub read_of_all : Tables → ℕ → LoadStep
read_of_all t q = load_step (BeginRead q (all_servers (servers_of t))) 0

-- a delivery "by panel and target": 17 targets a client
abbrev pub delivery : (ℕ → ℕ → Step) → ℕ → LoadStep
delivery step n = load_step (step (n / targets) (n % targets)) 0

-- "Steps are numbered: WRITEs to all stations by panel, READs of all by panel, then requests, then replies, by panel and target."
unfoldable pub numbered : Tables → ℕ → LoadStep
numbered t n =
    let p = clients_of t in
    cond (ltb n p) (write_of_all t n)
    (cond (ltb n (2 * p)) (read_of_all t (n - p))
    (cond (ltb n ((2 + targets) * p)) (delivery Request (n - 2 * p)) (delivery Reply (n - (2 + targets) * p))))

abbrev pub numbered_count : ℕ → ℕ
numbered_count p = (2 + targets + targets) * p

-- what a step of the load shows and leaves: it is a line of a schedule like any other
abbrev pub load_played : Tables → LoadStep → Played
load_played t s = played s.step (replicate (servers_of t) s.setpoint) t

-- acceptable: its answer is no refusal
abbrev pub is_accepted : Word → Bool
is_accepted print.Ok = true
is_accepted print.Wait = true
is_accepted print.Next = true
is_accepted (print.Write tag) = true
is_accepted (print.Read tag) = true
is_accepted (print.No number) = false

abbrev pub acceptable : Tables → LoadStep → Bool
acceptable t s = is_accepted (load_played t s).shown.word

-- the numbers of the acceptable steps
abbrev pub acceptables : Tables → List ℕ
acceptables t = passing (λ n. acceptable t (numbered t n)) (numbered_count (clients_of t))

-- "Each pick first advances"; where no step is acceptable there is no pick
unfoldable pub picked_from : List ℕ → Tables → ℕ → Next
picked_from numbers t seed =
    let seed' = advance seed in
    cond (eqb (length numbers) 0) next.End
    (next.Given seed' (numbered t (get_or numbers (index_by seed' (length numbers)) 0)))

abbrev pub picked : Tables → ℕ → Next
picked t seed = picked_from (acceptables t) t seed

-- 2 "tables not sound"
unfoldable pub next_step : Tables → ℕ → Next
next_step t seed = cond (sound t) (picked t seed) (next.Refused 2)
