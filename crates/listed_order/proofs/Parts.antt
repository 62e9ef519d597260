-- Of specs/Parts: what cites a theorem there that a changed definition can make fail.
use Rattle.std.specs.Prelude.{ℕ, suc, ◌≡◌, refl, Bool, List, [], ◌∷◌, map, length, get_or, drop}
use Rattle.std.proofs.Common.{ap, ap₂, arith}
use Rattle.ranges.specs.Sum.{one}
use Rattle.tables.specs.Tables.{Tables}
use Rattle.listing.specs.Register.{Line}
use Rattle.claim.specs.Steps.{Step, Played, Machine, run, left_by}
use Rattle.claim.specs.History.{opened_with, history}
use Rattle.claim.specs.Row.{row}
use Rattle.claim.specs.Sample.{zeros}
use Rattle.claim.specs.WrongStores.{first}
use Rattle.claim.specs.Broken.{opens, Accepted}
use Rattle.claim.specs.Decided.{Test, always, never, meaning, both, equal, Stated, among, InPlace, all_stated, first-broken}
use Rattle.claim.specs.Decided as decided
use Rattle.listed_order.specs.Order.{Particulars, described, told, step_numbers, SameOrder}
use Rattle.listed_order.specs.Parts.{Agree, Computed, Differs, Part, agreed, in_place, lines, parts, place_of, rowed, same, words}

module _ (listing : Tables → List Line) (machine : Machine Step) (method : ℕ) (steps : List Step) where
  pub differs : (part : Part) (more : List Part) → Accepted machine method → Computed listing machine method steps (part ∷ more) → Differs listing machine method steps (part ∷ more)
  differs part more e c =
      let stated = all_stated place_of parts in_place (Agree listing machine method steps) (λ p. same (words p (lines listing machine method steps)) (words p (rowed listing machine method steps))) (part ∷ more) c in
      record {
        accepted = e;
        stated = stated;
        refuted = λ d. first-broken place_of parts (Agree listing machine method steps) part more (stated part) (ap (words part) (agreed listing machine method steps d e));
      }
