-- The first fault of the entries that are left is that of all.
use Rattle.std.proofs.Common.{◌≡◌, ℕ, ◌+◌, ◌-◌, ◌*◌, ◌≤◌, refl, ap, ap₂, ◌∙◌, arith}
use Rattle.std.proofs.lemmas.Result.{err_from_is_err_and}
use native.Mathlib.Nat.{mul-le-mul, suc-mul}
use native.Mathlib.Numerals.{add-one}
use Rattle.frame_table.specs.Entry.{key_bits}
use Rattle.frame_table.specs.Columns.{most_bits}
use Rattle.formats.specs.Results.{number-some}
use Rattle.formats.specs.Judging.{entries_fault, entries_stop, entries_on, entries-end}
use Rattle.frame_faults.proofs.entries_fault.Goals.{In-loop-i}
use Rattle.frame_faults.proofs.entries_fault.Goals as goal

-- an entry is left, and its bits are few
module _ (c : In-loop-i) where
  more :
      let bits = key_bits + c.args.width in
      (c.loop-i.i + 1) * bits ≡ c.loop-i.i * bits + bits
  more = let bits = key_bits + c.args.width in ap (λ n. n * bits) (add-one c.loop-i.i) ∙ suc-mul c.loop-i.i bits

  room :
      let a = c.args in
      a.first + (c.loop-i.i + 1) * (key_bits + a.width) ≤ most_bits
  room =
      let a = c.args in
      let h : (c.loop-i.i + 1) * (key_bits + a.width) ≤ a.entries * (key_bits + a.width) =
      mul-le-mul (omega (arith, c.loop-i-test.true)) (omega arith) in
      omega (arith, h, c.requires.near)

pub loop-i-init : goal.loop-i-init
loop-i-init c = ap₂ (λ b n. entries_fault c.args.bytes.now b c.args.width c.args.least n) (omega arith) (omega arith)

pub entry_fault-requires : goal.entry_fault-requires
entry_fault-requires c =
    let p = c.requires in
    let r = room (goal.at.entry_fault-requires c).In-loop-i in
    let z = more (goal.at.entry_fault-requires c).In-loop-i in (
      omega (arith, r, z),
      record { near = omega (arith, r, z); narrow = p.narrow; masked = p.masked (omega (arith, c.loop-i-test.true)) },
    )

pub returns-in_err-entry_fault : goal.returns-in_err-entry_fault
returns-in_err-entry_fault c =
    let l = c.loop-i in
    let a = c.args in
    let p = err_from_is_err_and c.from_residual.result c.from_residual.ensures.1 in
    rw (p.1, p.2)
    (entries_stop a.bytes.now _ a.width a.least (a.entries - l.i) (omega (arith, c.loop-i-test.true)) c.in_err-entry_fault.ensures
    (number-some _)
    ∙ l.invariant)

pub loop-i-preserved : goal.loop-i-preserved
loop-i-preserved c =
    let l = c.loop-i in
    let a = c.args in
    ap₂ (λ b n. entries_fault a.bytes.now b a.width a.least n)
    (omega (arith, more (goal.at.loop-i-preserved c).In-loop-i)) (omega arith)
    ∙ entries_on a.bytes.now _ a.width a.least (a.entries - l.i) (omega (arith, c.loop-i-test.true)) c.in_ok-entry_fault.ensures refl
    ∙ l.invariant

pub returns : goal.returns
returns c =
    let l = c.loop-i in
    let a = c.args in
    entries-end a.bytes.now _ a.width a.least (a.entries - l.i) (omega (arith, c.loop-i-test.false)) ∙ l.invariant
