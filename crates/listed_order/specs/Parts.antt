-- What the register's order says, part by part; and a test of each, which decides it for a listing, a machine and a list of its steps.
use Rattle.std.specs.Prelude.{ℕ, suc, ◌≡◌, refl, Bool, List, [], ◌∷◌, map, length, get_or, drop}
use Rattle.std.proofs.Common.{ap, ap₂, arith}
use Rattle.ranges.specs.Sum.{one}
use Rattle.tables.specs.Tables.{Tables}
use Rattle.listing.specs.Register.{Line}
use Rattle.claim.specs.Steps.{Step, Played, Machine, run, left_by}
use Rattle.claim.specs.History.{opened_with, history}
use Rattle.claim.specs.Row.{row}
use Rattle.claim.specs.Sample.{zeros}
use Rattle.claim.specs.WrongStores.{first}
use Rattle.claim.specs.Broken.{opens, Accepted}
use Rattle.claim.specs.Decided.{Test, always, never, meaning, both, equal, Stated, among, InPlace, all_stated, first-broken}
use Rattle.claim.specs.Decided as decided
use Rattle.listed_order.specs.Order.{Particulars, described, told, step_numbers, SameOrder}

-- how many there are, and of each its particulars
pub data Part : Type 0 where
  count kind tag client mask begin end : Part

abbrev pub words : Part → List Particulars → List ℕ
words count xs = length xs ∷ []
words kind xs = map (λ x. one x.is_write) xs
words tag xs = map (λ x. x.tag) xs
words client xs = map (λ x. x.client) xs
words mask xs = map (λ x. x.mask) xs
words begin xs = map (λ x. x.begin) xs
words end xs = map (λ x. x.end) xs

-- ---- the parts by number

abbrev pub place_of : Part → ℕ
place_of count = 0
place_of kind = 1
place_of tag = 2
place_of client = 3
place_of mask = 4
place_of begin = 5
place_of end = 6

abbrev pub parts : List Part
parts = count ∷ kind ∷ tag ∷ client ∷ mask ∷ begin ∷ end ∷ []

pub in_place : InPlace place_of parts
in_place test count = refl
in_place test kind = refl
in_place test tag = refl
in_place test client = refl
in_place test mask = refl
in_place test begin = refl
in_place test end = refl

-- two lists of numbers are the same
abbrev pub same : (xs ys : List ℕ) → Test (xs ≡ ys)
same [] [] = always refl
same [] (y ∷ ys) = never (λ e. let z : 0 ≡ suc (length ys) = ap length e in omega (arith, z))
same (x ∷ xs) [] = never (λ e. let z : suc (length xs) ≡ 0 = ap length e in omega (arith, z))
same (x ∷ xs) (y ∷ ys) =
    meaning (both (equal x y) (same xs ys))
    (λ e. ap₂ {C = List ℕ} (λ (n : ℕ) (l : List ℕ). n ∷ l) e.0 e.1)
    (λ e. (ap (λ (l : List ℕ). get_or l 0 0) e, ap (λ (l : List ℕ). drop 1 l) e))

-- what the tests of every part say of two lists
abbrev verdict : List Particulars → List Particulars → List Bool
verdict xs ys = map (λ part. (same (words part xs) (words part ys)).passes) parts

-- ---- a listing and a machine, opened with two servers and two clients, and a list of its steps

module _ (listing : Tables → List Line) (machine : Machine Step) (method : ℕ) (steps : List Step) where
  abbrev start : Tables
  start = (machine (opens method) zeros).tables

  abbrev ran : List Played
  ran = run machine steps start

  unfoldable pub lines : List Particulars
  lines = map (described (left_by ran start)) (listing (left_by ran start))

  unfoldable pub rowed : List Particulars
  rowed = map (told (step_numbers ran [] 1)) (row (history ran (opened_with method first)))

  abbrev pub Agree : Part → Type 0
  Agree part = words part lines ≡ words part rowed

  module _ (broken : List Part) where
    -- each part that is broken is refuted, and each other agrees
    pub record Differs : Type 0 where
      pub accepted : Accepted machine method
      pub stated : (part : Part) → Stated (among place_of parts part broken) (Agree part)
      pub refuted : SameOrder listing machine → ⊥

    -- what the tests say, all at once
    abbrev pub Computed : Type 0
    Computed = decided.Computed place_of parts (verdict lines rowed) broken

  pub agreed : SameOrder listing machine → Accepted machine method → lines ≡ rowed
  unfolding lines rowed
  agreed d e = d (opens method) zeros method 2 2 first e steps
