-- What the functions return, as a load's answer: a refusal goes by the number of its cause.
use Rattle.std.specs.Prelude.{Result, Ok, Err}
use Rattle.causes.specs.declared.Refusal.{Refusal}
use Rattle.causes.specs.Numbers.{number_of}
use Rattle.workload_run.specs.declared.Progress.{Progress}
use Rattle.workload_run.specs.Load as load

abbrev pub load_of : Result Progress Refusal → load.Load
load_of (Ok p) = load.Played p.given p.seed
load_of (Err r) = load.Refused (number_of r)
