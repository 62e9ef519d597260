-- How the writer lays the fields of a frame's values, one behind the other.
use Rattle.std.specs.Prelude.{◌≡◌, ℕ, ◌+◌, ◌*◌, ◌≤◌, ◌<◌, List, ◌++◌, true, false, get_or}
use Rattle.std.proofs.Common.{sym, ap, ap₂, ◌∙◌, arith}
use Rattle.std.proofs.Math.ListN.{length, drop}
use borrow.Author.Tests.{le-leb, lt-leb}
use Rattle.ranges.specs.Tests.{by-test}
use Rattle.frame_table.specs.declared.Shape.{Shape}
use Rattle.formats.specs.Grammar.{good, size, lay, zeros, frame}
use Rattle.formats.specs.RoundTrip.{length-frame}
use Rattle.frame_table.specs.Table.{header_bits, most_entries, shape_of, row_of, entries_said}
use Rattle.frame_table.specs.TableLaws.{most_column, columns_small, entries_fit}
use Rattle.formats.specs.Format.{format}
use Rattle.formats.specs.Entries.{values_by}
use Rattle.frame_table.specs.Columns.{length_by, Packable}
use Rattle.formats.specs.EntryLaws.{values_many, values-kind}
use Rattle.format_writing.specs.Writing.{wrote_of, bytes_after}
use Rattle.formats.specs.Walk.{values_length, frame_bits, frame-length}
use Rattle.formats.specs.Walk.{kind-below, entries_few}

-- What laying asks: the row of the kind, values of a frame, and room for it.
pub record Layable (row fixed keys badges numbers : List ℕ) (entries bytes : ℕ) : Type 0 where
  pub its-row : row ≡ row_of (get_or fixed 0 0)
  pub packable : Packable fixed keys badges numbers entries
  pub right : good format (values_by fixed keys badges numbers entries) ≡ true
  pub fits : size format (values_by fixed keys badges numbers entries) ≤ 8 * bytes

module _ (vs : List ℕ) (g : good format vs ≡ true) where
  -- a frame has few bits
  pub size_small : size format vs ≤ header_bits + most_column + most_entries * most_column
  size_small =
      let k = get_or vs 0 0 in
      omega (arith, frame_bits vs g, columns_small k (kind-below vs g), entries_fit k (entries_said vs) (kind-below vs g) (entries_few vs g))

-- ---- the cases of the answer

-- a frame's kind has a row
pub kind_unknown : (vs : List ℕ) → 12 < get_or vs 0 0 → good format vs ≡ false
kind_unknown vs h =
    by-test (good format vs) (λ g. let z : ⊥ = omega (arith, kind-below vs g) in absurd z) (λ g. g)

module _ (vs bytes : List ℕ) where
  pub write_bad : good format vs ≡ false → (record { fault = 11; length = 0 } ≡ wrote_of vs bytes) × (bytes ≡ bytes_after vs bytes)
  unfolding wrote_of bytes_after
  write_bad e = (rw e, rw e)

  module _ (e : good format vs ≡ true) where
    pub write_small : length bytes < length (frame format vs) → (record { fault = 12; length = 0 } ≡ wrote_of vs bytes) × (bytes ≡ bytes_after vs bytes)
    unfolding wrote_of bytes_after
    write_small h = let t = lt-leb (length (frame format vs)) (length bytes) h in (rw (e, t), rw (e, t))

    pub write_done : {n : ℕ} → n ≡ length (frame format vs) → n ≤ length bytes → (record { fault = 0; length = n } ≡ wrote_of vs bytes) × (frame format vs ++ drop n bytes ≡ bytes_after vs bytes)
    unfolding wrote_of bytes_after
    write_done {n} d h =
        let t = le-leb (length (frame format vs)) (length bytes) (omega arith) in
        (rw (e, t) (λ i. record { fault = 0; length = d i }), rw (e, t) (ap (λ (k : ℕ). frame format vs ++ drop k bytes) d))

-- the frame is what is laid over as many zero bytes as it is long
pub frame-over : (vs : List ℕ) {n : ℕ} → n ≡ length (frame format vs) → lay format vs (zeros n) 0 ≡ frame format vs
unfolding frame
frame-over vs d = ap (λ (k : ℕ). lay format vs (zeros k) 0) (d ∙ length-frame format vs)

-- and has room for the fields
pub size_inside : (vs : List ℕ) {n : ℕ} → n ≡ length (frame format vs) → size format vs ≤ 8 * n
size_inside vs d = omega (arith, length-frame format vs)

-- how many bytes it has, by the table
pub length_is :
    {fixed keys badges numbers : List ℕ} {entries : ℕ}
    → Packable fixed keys badges numbers entries
    → good format (values_by fixed keys badges numbers entries) ≡ true
    → {shape : Shape} {n : ℕ}
    → shape ≡ shape_of (get_or fixed 0 0)
    → n ≡ length_by shape entries
    → n ≡ length (frame format (values_by fixed keys badges numbers entries))
length_is {fixed} {keys} {badges} {numbers} {entries} p g {shape} es en =
    let vs = values_by fixed keys badges numbers entries in
    let said : entries ≡ entries_said vs = omega (arith, values_many p, values_length vs g) in
    en ∙ ap₂ length_by (es ∙ ap shape_of (sym (values-kind p))) said ∙ frame-length vs g
