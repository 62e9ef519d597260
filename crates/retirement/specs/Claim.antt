-- "Saved tables of method 1 are still sound, their transactions run to the end, and their register prints; nothing new begins on them."
-- The last of it, over every list of steps up to the next accepted opening.
use Rattle.std.specs.Prelude.{ℕ, ◌≡◌, List}
use Rattle.ranges.specs.Each.{Each}
use Rattle.tables.specs.Tables.{Tables, method_of, writes_of, reads_of, count_of}
use Rattle.rules.specs.Answer.{Answer}
use Rattle.rules.specs.Answer.{Ok, Refused}
use Rattle.claim.specs.Steps.{Event, opened, begun-write, begun-read, requested, replied, lost, resent, Played, Machine, run, left_by}

abbrev pub IsRefused : Answer → Type 0
IsRefused Ok = ⊥
IsRefused (Refused n) = Unit {0}

-- no accepted opening
abbrev pub Unopened : Event → Type 0
Unopened (opened method k p setpoints answer) = IsRefused answer
Unopened (begun-write q mask badge setpoints answer) = Unit {0}
Unopened (begun-read q mask answer) = Unit {0}
Unopened (requested q i answer) = Unit {0}
Unopened (replied q i d) = Unit {0}
Unopened (lost q i answer) = Unit {0}
Unopened (resent q i answer) = Unit {0}

-- no accepted begin
abbrev pub Unbegun : Event → Type 0
Unbegun (opened method k p setpoints answer) = Unit {0}
Unbegun (begun-write q mask badge setpoints answer) = IsRefused answer
Unbegun (begun-read q mask answer) = IsRefused answer
Unbegun (requested q i answer) = Unit {0}
Unbegun (replied q i d) = Unit {0}
Unbegun (lost q i answer) = Unit {0}
Unbegun (resent q i answer) = Unit {0}

-- No begin was accepted, and so no record is new, and no client has counted a WRITE more.
pub record NothingNew (t : Tables) (played : List Played) : Type 0 where
  pub unbegun : Each (λ x. Unbegun x.event) played
  pub writes : writes_of (left_by played t) ≡ writes_of t
  pub reads : reads_of (left_by played t) ≡ reads_of t
  pub counts : (q : ℕ) → count_of (left_by played t) q ≡ count_of t q

-- Of a machine: on any tables of method 1, sound or not, from whatever yard they come.
abbrev pub Retired : {S : Type 0} → Machine S → Type 0
Retired {S} machine =
    (t : Tables) → method_of t ≡ 1 → (steps : List S) → Each (λ x. Unopened x.event) (run machine steps t) →
    NothingNew t (run machine steps t)
