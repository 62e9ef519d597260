-- What follows beside demand 3 for the same lists of steps.
use Rattle.std.specs.Prelude.{ℕ, suc, ◌≡◌, true, List, [], ◌∷◌}
use Rattle.ranges.specs.Each.{Each}
use Rattle.rules.specs.Answer.{Answer}
use Rattle.rules.specs.Answer as answer
use Rattle.rules.specs.declared.Arrival.{Arrival}
use Rattle.rules.specs.declared.Arrival.TheVariants as arrival
use Rattle.tables.specs.Tables.{Tables, step_of}
use Rattle.soundness.specs.Sound.{sound}
use Rattle.claim.specs.Steps.{Event, opened, begun-write, begun-read, requested, replied, lost, resent, Played, Machine, left_by}
use Rattle.claim.specs.History.{BehindOpenings}

-- the number by which a step was refused; 0 where it was accepted
abbrev pub number_of : Answer → ℕ
number_of answer.Ok = 0
number_of (answer.Refused n) = n

abbrev pub number_of_arrival : Arrival → ℕ
number_of_arrival arrival.Wait = 0
number_of_arrival arrival.Next = 0
number_of_arrival (arrival.Write tag) = 0
number_of_arrival (arrival.Read tag) = 0
number_of_arrival (arrival.Refused n) = n

abbrev pub number : Event → ℕ
number (opened method k p setpoints a) = number_of a
number (begun-write q mask badge setpoints a) = number_of a
number (begun-read q mask a) = number_of a
number (requested q i a) = number_of a
number (replied q i d) = number_of_arrival d.arrival
number (lost q i a) = number_of a
number (resent q i a) = number_of a

-- "The opening is step 1; each accepted step adds 1": the accepted steps behind the last accepted opening, and that opening
abbrev pub counted_answer : Answer → ℕ → ℕ
counted_answer answer.Ok n = suc n
counted_answer (answer.Refused m) n = n

abbrev pub counted_arrival : Arrival → ℕ → ℕ
counted_arrival arrival.Wait n = suc n
counted_arrival arrival.Next n = suc n
counted_arrival (arrival.Write tag) n = suc n
counted_arrival (arrival.Read tag) n = suc n
counted_arrival (arrival.Refused m) n = n

abbrev pub accepted : Event → ℕ → ℕ
accepted (opened method k p setpoints answer.Ok) n = 1
accepted (opened method k p setpoints (answer.Refused m)) n = n
accepted (begun-write q mask badge setpoints a) n = counted_answer a n
accepted (begun-read q mask a) n = counted_answer a n
accepted (requested q i a) n = counted_answer a n
accepted (replied q i d) n = counted_arrival d.arrival n
accepted (lost q i a) n = counted_answer a n
accepted (resent q i a) n = counted_answer a n

abbrev pub accepted_steps : List Played → ℕ → ℕ
accepted_steps [] n = n
accepted_steps (x ∷ xs) n = accepted_steps xs (accepted x.event n)

-- n steps were accepted before the list, which begins with the tables start
pub record Consequences (start : Tables) (played : List Played) (n : ℕ) : Type 0 where
  -- "a set or enter request finds 256 versions or log entries, or a get request a key not held": from an opening this never arises
  pub room : Each (λ x. number x.event ≡ 8 → ⊥) played
  -- the step number counts the accepted steps, losses and resends too
  pub counted : step_of (left_by played start) ≡ accepted_steps played n
  -- the tables are sound after every step, so that number 2 never arises either
  pub sound : Each (λ x. sound x.tables ≡ true) played

-- of a machine: the opening was step 1
abbrev pub Besides : {S : Type 0} → Machine S → Type 0
Besides machine = BehindOpenings machine (λ start played h. Consequences start played 1)
