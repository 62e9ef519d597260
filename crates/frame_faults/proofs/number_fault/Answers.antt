-- Each way out is a case of the definition; a number that has a least is a mask.
use mathlib.Core.Path.{◌≡◌, sym, ap, ◌∙◌}
use native.Mathlib.Omega.{arith}
use Rattle.fields.specs.Bits.{field_at}
use Rattle.fields.specs.ByBytes.{field_by_bytes_lem}
use Rattle.formats.specs.Judging.{number_cut, number_low, number_right}
use Rattle.frame_faults.proofs.number_fault.Goals.{After-read_field}
use Rattle.frame_faults.proofs.number_fault.Goals as goal

pub returns-then-bytes-at : goal.returns-then-bytes-at
returns-then-bytes-at c = let a = c.args in number_cut a.bytes.now a.at a.width a.least c.if-bytes-at.true

pub returns-then-least-eq0 : goal.returns-then-least-eq0
returns-then-least-eq0 c =
    let a = c.args in
    number_right a.bytes.now a.at a.width a.least c.if-bytes-at.false (omega (arith, c.if-least-eq0.true))

pub read_field-requires : goal.read_field-requires
read_field-requires c =
    let w = c.requires.masked c.if-least-eq0.false in
    record { narrow = omega arith; inside = omega (arith, w, c.if-bytes-at.false) }

-- what was read by bytes is the number bit by bit
module _ (c : After-read_field) where
  bits :
      let a = c.args in
      c.read_field.result ≡ field_at a.bytes.now a.at a.width
  bits =
      c.read_field.ensures ∙ field_by_bytes_lem _ _ _ ∙ ap (field_at _ _) (sym (c.requires.masked c.if-least-eq0.false))

pub returns-then-read_field-least : goal.returns-then-read_field-least
returns-then-read_field-least c =
    let a = c.args in
    number_low a.bytes.now a.at a.width a.least c.if-bytes-at.false (omega (arith, bits (goal.at.returns-then-read_field-least c).After-read_field))

pub returns : goal.returns
returns c =
    let a = c.args in
    number_right a.bytes.now a.at a.width a.least c.if-bytes-at.false (omega (arith, bits (goal.at.returns c).After-read_field))
