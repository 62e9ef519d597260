-- Any machine whose every step leaves its records so has the overlap by moments: the one induction over lists of steps.
use Rattle.std.specs.Prelude.{suc, ◌≡◌, List, [], ◌∷◌}
use Rattle.std.proofs.Common.{subst, sym, arith}
use Rattle.ranges.specs.Tests.{by_equal}
use Rattle.ranges.specs.Each.{Each, each_map}
use Rattle.tables.specs.Tables.{Tables, step_of, writes_of, reads_of}
use Rattle.rules.specs.Answer.{Ok, Refused}
use Rattle.soundness.specs.Facts.{Sound}
use Rattle.claim.specs.Steps.{Event, opened, begun-write, begun-read, requested, replied, lost, resent, Machine, run, left_by}
use Rattle.claim.specs.History.{History, opened_with}
use Rattle.serial.proofs.Openings.{Starts}
use Rattle.moments.specs.Claim.{with', moments_of, ByMoments}
use Rattle.moments.specs.Sorts.{Sort, writes, reads}
use Rattle.moments.specs.Seen.{Timed, Seen, seen_on, timed_on}
use Rattle.moments.specs.Overlaps.{Covered, by_moments}
use Rattle.moments.specs.Growth.{Stepped, stays, moves}

-- Tables and the moments up to them: the records of the tables tell each moment, and every step number has one. d stands for no moment.
pub record Told (d t : Tables) (past : List Tables) : Type 0 where
  pub sound : Sound t
  pub writes_timed : Timed writes t
  pub reads_timed : Timed reads t
  pub writes-seen : Each (λ u. Seen writes u t) past
  pub reads-seen : Each (λ u. Seen reads u t) past
  pub cover : Covered d t past

-- behind an accepted opening there is one moment, and no record
pub record Started (h : History) (t : Tables) : Type 0 where
  pub sound : Sound t
  pub step : step_of t ≡ 1
  pub writes-none : writes_of t ≡ 0
  pub reads_none : reads_of t ≡ 0

pub none_timed : (sort : Sort) (t : Tables) → sort.begun t ≡ 0 → Timed sort t
none_timed sort t none = record {
  some = λ n l. let z : ⊥ = omega arith in absurd z;
  begun = λ n l. let z : ⊥ = omega arith in absurd z;
  ended = λ n l. let z : ⊥ = omega arith in absurd z;
  most = λ n l. let z : ⊥ = omega arith in absurd z;
}

-- What a step must keep: an accepted opening starts anew, any other step is accepted or leaves all as before.
abbrev pub Goes : Event → Tables → Tables → Type 0
Goes (opened method k p setpoints Ok) t t' = Unit {0}
Goes (opened method k p setpoints (Refused n)) t t' = Stepped t t'
Goes (begun-write q mask badge setpoints answer) t t' = Stepped t t'
Goes (begun-read q mask answer) t t' = Stepped t t'
Goes (requested q i answer) t t' = Stepped t t'
Goes (replied q i a) t t' = Stepped t t'
Goes (lost q i answer) t t' = Stepped t t'
Goes (resent q i answer) t t' = Stepped t t'

pub record Recording {S : Type 0} (machine : Machine S) : Type 0 where
  pub starts : (step : S) (t : Tables) → Starts Started (machine step t).event (machine step t).tables
  pub sound : (step : S) (t : Tables) → Sound t → Sound (machine step t).tables
  pub goes : (step : S) (t : Tables) → Sound t → Goes (machine step t).event t (machine step t).tables
