-- What a look-up and a trial answer, and what the functions return, in these words.
use Rattle.std.specs.Prelude.{ℕ, Result, Ok, Err}
use Rattle.causes.specs.declared.Refusal.{Refusal}
use Rattle.causes.specs.Numbers.{number_of, fault_of}
use Rattle.version_records.specs.declared.Reading.{Reading as Told}
use Rattle.version_records.specs.declared.Trial.{Trial as Tried}

-- The setpoint of a key and the badge that came with it, with number 0. Number 8 where no version held bears the key.
pub record Reading : Type 0 where
  pub number : ℕ
  pub badge : ℕ
  pub setpoint : ℕ

-- What a trial found: what the append answered, how many can be read then, where the key stands, and what is read of it.
pub record Trial : Type 0 where
  pub number : ℕ
  pub readable : ℕ
  pub place : ℕ
  pub reading : Reading

-- a refusal goes by its number
abbrev pub reading_by : Result Told Refusal → Reading
reading_by (Ok r) = record { number = 0; badge = r.badge; setpoint = r.setpoint }
reading_by (Err e) = record { number = number_of e; badge = 0; setpoint = 0 }

abbrev pub trial_by : Tried → Trial
trial_by t = record { number = fault_of t.appended; readable = t.readable; place = t.place; reading = reading_by t.reading }
