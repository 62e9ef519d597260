-- What it means that a wrong store breaks fields of the claim and no other; and that a computed list of tests shows it.
use Rattle.std.specs.Prelude.{ℕ, ◌≡◌, refl, Bool, List, [], ◌∷◌, map}
use Rattle.rules.specs.Answer.{Ok}
use Rattle.claim.specs.Steps.{Step, opening, opened, Played, Machine, run}
use Rattle.claim.specs.History.{History, opened_with, history}
use Rattle.claim.specs.Claim.{Claim, Demand3}
use Rattle.claim.specs.Decided.{Stated, among, InPlace, all_stated, first-broken}
use Rattle.claim.specs.Decided as decided
use Rattle.claim.specs.Fields as field
use Rattle.claim.specs.Fields.{Field, Says}
use Rattle.claim.specs.Sample.{zeros}
use Rattle.claim.specs.WrongStores.{first}

-- ---- the fields by number

abbrev pub place_of : Field → ℕ
place_of field.walk = 0
place_of field.whole = 1
place_of field.complete = 2
place_of field.read_after_read = 3
place_of field.write_after_read = 4
place_of field.read_after_write = 5
place_of field.write_after_write = 6
place_of field.answered = 7
place_of field.ends = 8
place_of field.unfinished = 9
place_of field.tags = 10
place_of field.whose = 11

abbrev pub fields : List Field
fields =
    field.walk ∷ field.whole ∷ field.complete ∷ field.read_after_read ∷ field.write_after_read ∷ field.read_after_write ∷ field.write_after_write ∷
    field.answered ∷ field.ends ∷ field.unfinished ∷ field.tags ∷ field.whose ∷ []

pub in_place : InPlace place_of fields
in_place g field.walk = refl
in_place g field.whole = refl
in_place g field.complete = refl
in_place g field.read_after_read = refl
in_place g field.write_after_read = refl
in_place g field.read_after_write = refl
in_place g field.write_after_write = refl
in_place g field.answered = refl
in_place g field.ends = refl
in_place g field.unfinished = refl
in_place g field.tags = refl
in_place g field.whose = refl

-- ---- a machine, opened with two servers and two clients, and a list of its steps

abbrev pub opens : ℕ → Step
opens method = opening method 2 2 first

unfoldable pub played : Machine Step → ℕ → List Step → List Played
played machine method steps = run machine steps (machine (opens method) zeros).tables

unfoldable pub told : Machine Step → ℕ → List Step → History
told machine method steps = history (played machine method steps) (opened_with method first)

abbrev pub Accepted : Machine Step → ℕ → Type 0
Accepted machine method = (machine (opens method) zeros).event ≡ opened method 2 2 first Ok

module _ (broken : List Field) (machine : Machine Step) (method : ℕ) (steps : List Step) where
  abbrev pub SaysThere : Field → Type 0
  SaysThere f = Says f (played machine method steps) (told machine method steps)

  -- each field that is broken is refuted, and each other holds
  pub record Breaks : Type 0 where
    pub accepted : Accepted machine method
    pub stated : (f : Field) → Stated (among place_of fields f broken) (SaysThere f)
    pub refuted : Demand3 machine → ⊥

module _ (machine : Machine Step) (method : ℕ) (steps : List Step) (f : Field) (more : List Field) where
  pub claim : Demand3 machine → Accepted machine method → Claim (played machine method steps) (told machine method steps)
  unfolding told played
  claim d e = d (opens method) zeros method 2 2 first e steps
