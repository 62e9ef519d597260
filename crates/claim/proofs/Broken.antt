-- Of specs/Broken: what cites a theorem there that a changed definition can make fail.
use Rattle.std.specs.Prelude.{ℕ, ◌≡◌, refl, Bool, List, [], ◌∷◌, map}
use Rattle.rules.specs.Answer.{Ok}
use Rattle.claim.specs.Steps.{Step, opening, opened, Played, Machine, run}
use Rattle.claim.specs.History.{History, opened_with, history}
use Rattle.claim.specs.Claim.{Claim, Demand3}
use Rattle.claim.specs.Decided.{Stated, among, InPlace, all_stated, first-broken}
use Rattle.claim.specs.Decided as decided
use Rattle.claim.specs.Fields as field
use Rattle.claim.proofs.Fields.{claim_says, test}
use Rattle.claim.specs.Fields.{Field, Says}
use Rattle.claim.specs.Sample.{zeros}
use Rattle.claim.specs.WrongStores.{first}
use Rattle.claim.specs.Broken.{Accepted, Breaks, SaysThere, claim, fields, in_place, place_of, played, told}

-- what the tests say of what was played
abbrev verdict : ℕ → List Played → List Bool
verdict method steps = map (λ f. (test method first steps f).passes) fields

module _ (broken : List Field) (machine : Machine Step) (method : ℕ) (steps : List Step) where
  -- what the tests say, all at once
  abbrev pub Computed : Type 0
  Computed = decided.Computed place_of fields (verdict method (played machine method steps)) broken

module _ (machine : Machine Step) (method : ℕ) (steps : List Step) (f : Field) (more : List Field) where
  pub breaks : Accepted machine method → Computed (f ∷ more) machine method steps → Breaks (f ∷ more) machine method steps
  unfolding told
  breaks e c =
      let There : Field → Type 0 = SaysThere (f ∷ more) machine method steps in
      let stated = all_stated place_of fields in_place There (test method first (played machine method steps)) (f ∷ more) c in
      record {
        accepted = e;
        stated = stated;
        refuted = λ d. first-broken place_of fields There f more (stated f) (claim_says _ _ (claim machine method steps f more d e) f);
      }
