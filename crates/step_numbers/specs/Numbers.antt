-- Answers as the numbers by which they cross to other languages.
use Rattle.std.specs.Prelude.{ℕ, ◌+◌}
use Rattle.tables.specs.Tables.{Tables}
use Rattle.rules.specs.Answer.{Answer}
use Rattle.rules.specs.Answer as answer
use Rattle.rules.specs.declared.Arrival.{Arrival}
use Rattle.rules.specs.declared.Arrival.TheVariants as arrival
use Rattle.rules.specs.declared.Delivered.{Delivered}
use Rattle.rules.specs.Answers.{Left, Arrived}
use Rattle.step_numbers.specs.declared.Crossing.{Crossing}

-- 0 for ok, or the number of the refusal
abbrev pub answer_number : Answer → ℕ
answer_number answer.Ok = 0
answer_number (answer.Refused n) = n

-- 2^32 times 1 to 4 for wait, next, write and read, with the tag added; or the number of the refusal
abbrev pub arrival_number : Arrival → ℕ
arrival_number arrival.Wait = 4294967296
arrival_number arrival.Next = 8589934592
arrival_number (arrival.Write tag) = 12884901888 + tag
arrival_number (arrival.Read tag) = 17179869184 + tag
arrival_number (arrival.Refused n) = n

-- a number and the tables that a step leaves
pub record Numbered : Type 0 where
  pub number : ℕ
  pub tables : Tables

abbrev pub numbered : ℕ → Tables → Numbered
numbered n t = record { number = n; tables = t }

-- what a step leaves, its answer as a number
abbrev pub in_numbers : Left → Numbered
in_numbers l = numbered (answer_number l.answer) l.tables

-- a delivered reply's answer as it crosses
abbrev pub crossing_of : Delivered → Crossing
crossing_of d = record { number = arrival_number d.arrival; setpoints = d.setpoints; tags = d.tags; badges = d.badges }

-- what crosses, and the tables that the delivery leaves
pub record Crossed : Type 0 where
  pub crossing : Crossing
  pub tables : Tables

abbrev pub crossed : Crossing → Tables → Crossed
crossed x t = record { crossing = x; tables = t }

abbrev pub in_crossing : Arrived → Crossed
in_crossing a = crossed (crossing_of a.delivered) a.tables
