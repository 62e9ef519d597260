-- Laws of the entries: the cases as the code meets them, and the values one by one.
use Rattle.std.specs.Prelude.{ℕ, ◌+◌, ◌*◌, ◌/◌, ◌%◌, ◌≡◌, Bool, cond, List, length, get_or}
use Rattle.std.proofs.Common.{ap₂, ◌∙◌, length-append}
use native.Mathlib.Omega.{arith}
use Rattle.std.proofs.Math.ListN.{get_or-append}
use Rattle.ranges.specs.LaidLaws.{built-length}
use Rattle.frame_table.specs.Table.{entry_fields, values_for, has_badges}
use Rattle.formats.specs.Entries.{entry_value, values_by}
use Rattle.frame_table.specs.Columns.{Packable}

-- ---- the parts of an entry

module _ (badged : Bool) (keys badges numbers : List ℕ) (i : ℕ) where
  pub part_count : entry_value badged keys badges numbers (entry_fields * i) ≡ get_or keys i 0 / 256
  unfolding entry_value
  part_count =
      let r : entry_fields * i % entry_fields ≡ 0 = omega arith in
      let q : entry_fields * i / entry_fields ≡ i = omega arith in
      rw (r, q)

  pub part-client : entry_value badged keys badges numbers (entry_fields * i + 1) ≡ get_or keys i 0 % 256
  unfolding entry_value
  part-client =
      let r : (entry_fields * i + 1) % entry_fields ≡ 1 = omega arith in
      let q : (entry_fields * i + 1) / entry_fields ≡ i = omega arith in
      rw (r, q)

  pub part-badge : entry_value badged keys badges numbers (entry_fields * i + 2) ≡ cond badged (get_or badges i 0) 0
  unfolding entry_value
  part-badge =
      let r : (entry_fields * i + 2) % entry_fields ≡ 2 = omega arith in
      let q : (entry_fields * i + 2) / entry_fields ≡ i = omega arith in
      rw (r, q)

  pub part-number : entry_value badged keys badges numbers (entry_fields * i + 3) ≡ get_or numbers i 0
  unfolding entry_value
  part-number =
      let r : (entry_fields * i + 3) % entry_fields ≡ 3 = omega arith in
      let q : (entry_fields * i + 3) / entry_fields ≡ i = omega arith in
      rw (r, q)

-- ---- the values

module _ {fixed keys badges numbers : List ℕ} {entries : ℕ} (p : Packable fixed keys badges numbers entries) where
  abbrev its-values : ℕ → ℕ
  its-values = entry_value (has_badges (get_or fixed 0 0)) keys badges numbers

  pub values_many : length (values_by fixed keys badges numbers entries) ≡ values_for entries
  values_many = length-append fixed _ ∙ ap₂ (λ (a b : ℕ). a + b) p.all-fixed (built-length its-values (entry_fields * entries))

  pub values-kind : get_or (values_by fixed keys badges numbers entries) 0 0 ≡ get_or fixed 0 0
  values-kind = get_or-append fixed _ 0 0 (omega (arith, p.all-fixed))
