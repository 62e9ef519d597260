-- What the readers return, as what they find: a refusal goes by the number of its cause.
use Rattle.std.specs.Prelude.{ℕ, ◌≡◌, ◌≤◌, Result, Ok, Err, IfOk}
use Rattle.std.proofs.Common.{ap, arith}
use Rattle.causes.specs.declared.Refusal.{Refusal}
use Rattle.causes.specs.declared.Refusal.TheVariants as refusal
use Rattle.causes.specs.Numbers.{number_of}
use Rattle.formats.specs.declared.reading.Took.{Took as Taken}
use Rattle.formats.specs.declared.reading.Scan.{Scan as Scanned}
use Rattle.formats.specs.Took.{Took}
use Rattle.formats.specs.Scan.{Scan}
use Rattle.formats.specs.Grammar.{Outcome, fault, zeros}
use Rattle.formats.specs.Reading.{scan_of}
use Rattle.frame_table.specs.Table.{fixed_fields}

-- of a field that is refused its number alone is told
abbrev pub Takes : Result Taken Refusal → Took → Type 0
Takes (Ok t) took = record { fault = 0; width = t.width; value = t.value } ≡ took
Takes (Err r) took = number_of r ≡ took.fault

abbrev pub scan_by : Result Scanned Refusal → Scan
scan_by (Ok s) = record { fault = 0; fields = s.fields; fixed = s.fixed }
scan_by (Err r) = record { fault = number_of r; fields = 0; fixed = zeros fixed_fields }

-- no cause has the number 0, which refuses nothing
pub number-some : (r : Refusal) → number_of r ≡ 0 → ⊥
number-some refusal.NoSuchPress e = omega (arith, e)
number-some refusal.NotSound e = omega (arith, e)
number-some refusal.Absent e = omega (arith, e)
number-some refusal.Retired e = omega (arith, e)
number-some refusal.Busy e = omega (arith, e)
number-some refusal.Unfit e = omega (arith, e)
number-some refusal.Spent e = omega (arith, e)
number-some refusal.Unanswerable e = omega (arith, e)
number-some refusal.NoMessage e = omega (arith, e)
number-some refusal.CutShort e = omega (arith, e)
number-some refusal.Malformed e = omega (arith, e)
number-some refusal.NoRoom e = omega (arith, e)
number-some refusal.Unreadable e = omega (arith, e)
number-some refusal.NothingToLose e = omega (arith, e)
number-some refusal.NothingLost e = omega (arith, e)
number-some refusal.IllMade e = omega (arith, e)

-- a field's bits are few, where it was taken
pub takes_narrow : (r : Result Taken Refusal) (t : Took) → Takes r t → t.width ≤ 32 → IfOk r (λ x. x.width ≤ 32)
takes_narrow (Ok x) t e h = omega (arith, ap (λ (u : Took). u.width) e, h)
takes_narrow (Err _) t e h = tt

-- a refusal tells its number alone
pub refusal-told : (r : Refusal) {o : Outcome} → fault (number_of r) ≡ o → scan_by (Err r) ≡ scan_of o
unfolding scan_of
refusal-told r e = ap scan_of e
