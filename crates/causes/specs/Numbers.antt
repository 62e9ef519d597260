-- The numbers of the causes, in the order of the table that refuses a call.
use Rattle.std.specs.Prelude.{ℕ, Result, Ok, Err}
use Rattle.causes.specs.declared.Refusal.{Refusal}
use Rattle.causes.specs.declared.Refusal.TheVariants as refusal

-- "by its number"
abbrev pub number_of : Refusal → ℕ
number_of refusal.NoSuchPress = 1
number_of refusal.NotSound = 2
number_of refusal.Absent = 3
number_of refusal.Retired = 4
number_of refusal.Busy = 5
number_of refusal.Unfit = 6
number_of refusal.Spent = 7
number_of refusal.Unanswerable = 8
number_of refusal.NoMessage = 9
number_of refusal.CutShort = 10
number_of refusal.Malformed = 11
number_of refusal.NoRoom = 12
number_of refusal.Unreadable = 13
number_of refusal.NothingToLose = 14
number_of refusal.NothingLost = 15
number_of refusal.IllMade = 16

-- the number that refuses a call, and 0 where it is accepted
abbrev pub fault_of : {A : Type 0} → Result A Refusal → ℕ
fault_of (Ok _) = 0
fault_of (Err r) = number_of r
