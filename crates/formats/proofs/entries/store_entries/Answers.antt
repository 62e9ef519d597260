-- The first i places hold the keys and the numbers of the first i entries; a key has 12 bits, so that its number fits.
use mathlib.Core.Path.{◌≡◌, ap, ◌∙◌}
use Prim.Native.Nat.{ℕ, ◌+◌, ◌-◌, ◌*◌, ◌/◌, ◌%◌, ◌≤◌, ◌<◌}
use native.Mathlib.Nat.{mul-le-mul, suc-mul}
use native.Mathlib.Numerals.{add-one}
use native.Mathlib.Omega.{arith}
use lib.ListN.{length}
use Rattle.ranges.specs.LaidLaws.{laying-none, laying-more, laying-all}
use Rattle.fields.specs.Bits.{field_at}
use Rattle.fields.specs.FieldLaws.{field_below}
use Rattle.fields.specs.ByBytes.{field_by_bytes_lem}
use Rattle.frame_table.specs.Columns.{most_bits}
use Rattle.frame_table.specs.Entry.{key_bits, entry_bits, Slim}
use Rattle.formats.proofs.entries.store_entries.Goals.{After-read_field-key, In-loop-i}
use Rattle.formats.proofs.entries.store_entries.Goals as goal

pub loop-i-init : goal.loop-i-init
loop-i-init c =
    let p = c.requires in
    (omega arith, laying-none _ _ _ p.1, laying-none _ _ _ p.2)

-- an entry is left, and lies within the bytes
module _ (c : In-loop-i) where
  one_more :
      let l = c.loop-i in
      let a = c.args in
      (l.i + 1) * entry_bits a.behind ≡ l.i * entry_bits a.behind + entry_bits a.behind
  one_more =
      let l = c.loop-i in
      let a = c.args in
      ap (λ (n : ℕ). n * entry_bits a.behind) (add-one l.i) ∙ suc-mul l.i (entry_bits a.behind)

  here :
      let l = c.loop-i in
      let a = c.args in
      (l.at + entry_bits a.behind ≤ 8 * length a.bytes.now) × (l.at + entry_bits a.behind ≤ most_bits)
      × Slim a.behind
  here =
      let l = c.loop-i in
      let a = c.args in
      let p = c.requires.0 in
      let room : (l.i + 1) * entry_bits a.behind ≤ a.entries * entry_bits a.behind =
      mul-le-mul (omega (arith, c.loop-i-test.true)) (omega arith) in
      (omega (arith, l.invariant.0, one_more, room, p.inside), omega (arith, l.invariant.0, one_more, room, p.near), p.slim)

pub read_field-key-requires : goal.read_field-key-requires
read_field-key-requires c = record { narrow = omega arith; inside = omega (arith, (here c).0) }

-- what was read by bytes is the key bit by bit
module _ (c : After-read_field-key) where
  key-bits :
      let l = c.loop-i in
      let a = c.args in
      (c.read_field-key.result ≡ field_at a.bytes.now (a.first + l.i * entry_bits a.behind) key_bits) × (c.read_field-key.result < 4096)
  key-bits =
      let l = c.loop-i in
      let a = c.args in
      let e = c.read_field-key.ensures ∙ field_by_bytes_lem _ _ _ ∙ ap (λ (b : ℕ). field_at a.bytes.now b key_bits) l.invariant.0 in
      (e, omega (arith, e, field_below a.bytes.now (a.first + l.i * entry_bits a.behind) key_bits))

pub read_field-requires : goal.read_field-requires
read_field-requires c = let h = here (goal.at.read_field-requires c).In-loop-i in record { narrow = h.2.number; inside = omega (arith, h.0) }

pub loop-i-preserved : goal.loop-i-preserved
loop-i-preserved c =
    let l = c.loop-i in
    let a = c.args in
    let k = (key-bits (goal.at.loop-i-preserved c).After-read_field-key).0 in
    let h = c.loop-i-test.true in
    let number =
    c.read_field.ensures ∙ field_by_bytes_lem _ _ _
    ∙ ap (λ (b : ℕ). field_at a.bytes.now (b + key_bits + a.behind.badge) a.behind.width) l.invariant.0 in (
      omega (arith, l.invariant.0, one_more (goal.at.loop-i-preserved c).In-loop-i),
      laying-more l.invariant.1 h (ap (λ (n : ℕ). n / 16 * 256 + n % 16) k),
      laying-more l.invariant.2 h number,
    )

pub returns : goal.returns
returns c =
    let l = c.loop-i in
    (laying-all l.invariant.1 c.loop-i-test.false, laying-all l.invariant.2 c.loop-i-test.false)

pub overflow_mul-keys : goal.overflow_mul-keys
overflow_mul-keys c = omega (arith, (key-bits c).1)

pub overflow_add-keys : goal.overflow_add-keys
overflow_add-keys c = omega (arith, (key-bits c).1)

pub bounds-keys-i : goal.bounds-keys-i
bounds-keys-i c = omega (arith, c.loop-i.invariant.1.kept, c.loop-i.invariant.1.room)

pub overflow_add-at : goal.overflow_add-at
overflow_add-at c = omega (arith, (here (goal.at.overflow_add-at c).In-loop-i).1)

pub overflow_add-at-in-loop-i : goal.overflow_add-at-in-loop-i
overflow_add-at-in-loop-i c = omega (arith, (here (goal.at.overflow_add-at-in-loop-i c).In-loop-i).1)

pub bounds-numbers-i : goal.bounds-numbers-i
bounds-numbers-i c = let l = c.loop-i in omega (arith, l.invariant.2.kept, l.invariant.2.room)

pub overflow_add-at-in-loop-i-2 : goal.overflow_add-at-in-loop-i-2
overflow_add-at-in-loop-i-2 c = omega (arith, (here (goal.at.overflow_add-at-in-loop-i-2 c).In-loop-i).1)

pub overflow_add-at-in-loop-i-3 : goal.overflow_add-at-in-loop-i-3
overflow_add-at-in-loop-i-3 c = omega (arith, (here (goal.at.overflow_add-at-in-loop-i-3 c).In-loop-i).1)

pub overflow_add-at-in-loop-i-4 : goal.overflow_add-at-in-loop-i-4
overflow_add-at-in-loop-i-4 c = omega (arith, (here (goal.at.overflow_add-at-in-loop-i-4 c).In-loop-i).1)

pub shape_of-keys : goal.shape_of-keys
shape_of-keys c = c.loop-i.invariant.1.kept

pub shape_of-numbers : goal.shape_of-numbers
shape_of-numbers c = c.loop-i.invariant.2.kept
