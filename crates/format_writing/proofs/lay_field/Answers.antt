-- A field that the kind lacks is put nowhere; any other by the bits of what it holds.
use mathlib.Core.Path.{ap, ◌∙◌}
use Prim.Native.Nat.{ℕ}
use native.Mathlib.Omega.{arith}
use Rattle.fields.specs.Bits.{put_field}
use Rattle.fields.specs.ByBytes.{put_by_bytes_lem}
use Rattle.frame_table.specs.TableLaws.{limits_width, bits_most}
use Rattle.format_writing.specs.Packing.{put-nothing}
use Rattle.format_writing.proofs.lay_field.Goals as goal

pub returns-then-sort-eq-NO : goal.returns-then-sort-eq-NO
returns-then-sort-eq-NO c = let a = c.args in put-nothing a.sort a.bytes.now a.at a.value c.if-sort-eq-NO.true

pub write_field-requires : goal.write_field-requires
write_field-requires c =
    let w = limits_width c.args.sort c.limits_of-limits.ensures in
    record { narrow = omega (arith, w, bits_most c.args.sort c.requires.0); inside = omega (arith, w, c.requires.1) }

pub returns : goal.returns
returns c =
    let a = c.args in
    let w = limits_width a.sort c.limits_of-limits.ensures in
    (w, c.write_field.ensures ∙ put_by_bytes_lem _ _ _ _ ∙ ap (λ (n : ℕ). put_field a.bytes.now a.at n a.value) w)
