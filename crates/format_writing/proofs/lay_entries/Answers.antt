-- What is left of the entries, laid into the bytes as they are, gives what all of them give.
use mathlib.Core.Path.{◌≡◌, refl, sym, ap, ◌∙◌}
use Prim.Native.Nat.{ℕ, ◌+◌, ◌-◌, ◌*◌, ◌≤◌}
use native.Mathlib.Omega.{arith}
use mathlib.Core.Bool.{true}
use lib.ListN.{length, get_or}
use Rattle.frame_table.specs.Columns.{most_bits}
use Rattle.frame_table.specs.Entry.{key_bits, behind_bits, entry_bits, Slim}
use Rattle.formats.specs.Judging.{entry_more}
use Rattle.format_writing.specs.Packing.{key_right, entries_right, right-next, entries_laid, laid-entry, laid_none, length-entry_laid}
use Rattle.format_writing.proofs.lay_entries.Goals.{In-loop-i}
use Rattle.format_writing.proofs.lay_entries.Goals as goal

pub loop-i-init : goal.loop-i-init
loop-i-init c =
    let a = c.args in
    let z : a.entries - 0 ≡ a.entries = omega arith in (
      omega arith,
      refl,
      ap (λ (n : ℕ). a.first + n * entry_bits a.behind) z,
      ap (λ (n : ℕ). entries_laid a.behind a.keys.now a.badges.now a.numbers.now 0 n a.bytes.now a.first) z,
      ap (entries_right a.behind a.keys.now a.badges.now a.numbers.now 0) z ∙ c.requires.1,
    )

-- an entry is left, and there is room for it
module _ (c : In-loop-i) where
  bits_left :
      let l = c.loop-i in
      let a = c.args in
      (a.entries - l.i) * entry_bits a.behind ≡ entry_bits a.behind + (a.entries - l.i - 1) * entry_bits a.behind
  bits_left =
      let l = c.loop-i in
      let a = c.args in
      entry_more (a.entries - l.i) (behind_bits a.behind) (omega (arith, c.loop-i-test.true))

  room :
      let l = c.loop-i in
      let a = c.args in
      Slim a.behind × (l.at + entry_bits a.behind ≤ most_bits) × (l.at + entry_bits a.behind ≤ 8 * length l.bytes)
  room =
      let l = c.loop-i in
      let p = c.requires.0 in
      (p.beside.slim, omega (arith, l.invariant.2, bits_left, p.near), omega (arith, l.invariant.1, l.invariant.2, bits_left, p.room))

pub bounds-keys-i : goal.bounds-keys-i
bounds-keys-i c = omega (arith, c.loop-i-test.true, c.requires.0.beside.for-keys)

pub bounds-numbers-i : goal.bounds-numbers-i
bounds-numbers-i c = omega (arith, c.loop-i-test.true, c.requires.0.beside.for-numbers)

-- its key is right, and so are all behind it
module _ (c : In-loop-i) where
  right :
      let l = c.loop-i in
      let a = c.args in
      (key_right (get_or a.keys.now l.i 0) ≡ true)
      × (entries_right a.behind a.keys.now a.badges.now a.numbers.now (l.i + 1) (a.entries - l.i - 1) ≡ true)
  right =
      let l = c.loop-i in
      let a = c.args in
      right-next a.behind a.keys.now a.badges.now a.numbers.now l.i (a.entries - l.i)
      (omega (arith, c.loop-i-test.true)) l.invariant.4

pub lay_entry-requires : goal.lay_entry-requires
lay_entry-requires c =
    let b = c.requires.0.beside in
    let r = room (goal.at.lay_entry-requires c).In-loop-i in
    (r.0, λ d. omega (arith, c.loop-i-test.true, b.for_badges d), r.1, r.2, (right (goal.at.lay_entry-requires c).In-loop-i).0)

pub overflow_add-at-in-loop-i-2 : goal.overflow_add-at-in-loop-i-2
overflow_add-at-in-loop-i-2 c = omega (arith, (room (goal.at.overflow_add-at-in-loop-i-2 c).In-loop-i).1)

pub loop-i-preserved : goal.loop-i-preserved
loop-i-preserved c =
    let l = c.loop-i in
    let a = c.args in
    let bits = entry_bits a.behind in
    let e = c.lay_entry.ensures in
    let one_less : a.entries - (l.i + 1) ≡ a.entries - l.i - 1 = omega arith in
    let next : l.at + bits ≡ l.at + (key_bits + a.behind.badge + a.behind.width) = omega arith in (
      omega (arith, c.loop-i-test.true),
      ap length e ∙ length-entry_laid a.behind _ _ _ l.bytes l.at ∙ l.invariant.1,
      ap (λ (n : ℕ). l.at + (key_bits + a.behind.badge + a.behind.width) + n * bits) one_less
          ∙ omega (arith, l.invariant.2, bits_left (goal.at.loop-i-preserved c).In-loop-i),
      ap (entries_laid a.behind a.keys.now a.badges.now a.numbers.now (l.i + 1) (a.entries - (l.i + 1)) _) (sym next)
          ∙ laid-entry a.behind a.keys.now a.badges.now a.numbers.now l.i (a.entries - l.i) (a.entries - (l.i + 1))
          l.bytes l.at
          (omega (arith, c.loop-i-test.true)) one_less e
          ∙ l.invariant.3,
      ap (entries_right a.behind a.keys.now a.badges.now a.numbers.now (l.i + 1)) one_less ∙ (right (goal.at.loop-i-preserved c).In-loop-i).1,
    )

pub shape_of-bytes : goal.shape_of-bytes
shape_of-bytes c = c.loop-i.invariant.1

pub returns : goal.returns
returns c =
    let l = c.loop-i in
    let a = c.args in
    laid_none a.behind a.keys.now a.badges.now a.numbers.now l.i (a.entries - l.i) l.at
    (omega (arith, c.loop-i-test.false))
    ∙ l.invariant.3
