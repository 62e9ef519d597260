-- Causes of one number are one cause: nothing is lost where a promise goes by numbers.
use Rattle.std.specs.Prelude.{ℕ, ◌-◌, ◌≡◌, List, [], ◌∷◌, refl, get_or}
use Rattle.std.proofs.Common.{sym, ap, ◌∙◌, arith}
use Rattle.causes.specs.declared.Refusal.{Refusal}
use Rattle.causes.specs.declared.Refusal.TheVariants as refusal
use Rattle.causes.specs.Numbers.{number_of}

-- the causes in the order of their numbers, from 1
abbrev causes : List Refusal
causes =
    refusal.NoSuchPress
    ∷ refusal.NotSound
    ∷ refusal.Absent
    ∷ refusal.Retired
    ∷ refusal.Busy
    ∷ refusal.Unfit
    ∷ refusal.Spent
    ∷ refusal.Unanswerable
    ∷ refusal.NoMessage
    ∷ refusal.CutShort
    ∷ refusal.Malformed
    ∷ refusal.NoRoom
    ∷ refusal.Unreadable
    ∷ refusal.NothingToLose
    ∷ refusal.NothingLost
    ∷ refusal.IllMade
    ∷ []

abbrev cause_at : ℕ → Refusal
cause_at n = get_or causes (n - 1) refusal.NoSuchPress

cause_back : (r : Refusal) → cause_at (number_of r) ≡ r
cause_back refusal.NoSuchPress = refl
cause_back refusal.NotSound = refl
cause_back refusal.Absent = refl
cause_back refusal.Retired = refl
cause_back refusal.Busy = refl
cause_back refusal.Unfit = refl
cause_back refusal.Spent = refl
cause_back refusal.Unanswerable = refl
cause_back refusal.NoMessage = refl
cause_back refusal.CutShort = refl
cause_back refusal.Malformed = refl
cause_back refusal.NoRoom = refl
cause_back refusal.Unreadable = refl
cause_back refusal.NothingToLose = refl
cause_back refusal.NothingLost = refl
cause_back refusal.IllMade = refl

pub same-number : (r s : Refusal) → number_of r ≡ number_of s → r ≡ s
same-number r s e = sym (cause_back r) ∙ ap cause_at e ∙ cause_back s

-- and a cause's number is not that of an accepted call
pub some-number : (r : Refusal) → number_of r ≡ 0 → ⊥
some-number r e =
    let first : refusal.NoSuchPress ≡ r = ap cause_at (sym e) ∙ cause_back r in
    let one : 1 ≡ number_of r = ap number_of first in
    omega arith
