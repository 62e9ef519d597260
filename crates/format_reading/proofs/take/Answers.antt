-- Each way out is a case of the definition: cut short, too small, too large, or right; the value is the one that was read.
use mathlib.Core.Path.{◌≡◌, ap, ◌∙◌}
use native.Mathlib.Omega.{arith}
use Rattle.fields.specs.Bits.{field_at}
use Rattle.fields.specs.ByBytes.{field_by_bytes_lem}
use Rattle.formats.specs.Took.{Took}
use Rattle.formats.specs.Reading.{took_cut, took_is, fault_low, fault_high, fault-none}
use Rattle.format_reading.proofs.take.Goals.{After-read_field-value}
use Rattle.format_reading.proofs.take.Goals as goal

pub returns-then-bytes-at : goal.returns-then-bytes-at
returns-then-bytes-at c = let a = c.args in ap (λ (t : Took). t.fault) (took_cut a.bytes.now a.at a.field c.if-bytes-at.true)

-- what was read by bytes is the field bit by bit
module _ (c : After-read_field-value) where
  bits :
      let a = c.args in
      c.read_field-value.result ≡ field_at a.bytes.now a.at a.field.width
  bits = c.read_field-value.ensures ∙ field_by_bytes_lem _ _ _

pub returns-then-value-field : goal.returns-then-value-field
returns-then-value-field c =
    let a = c.args in
    let e = bits (goal.at.returns-then-value-field c).After-read_field-value in
    let h = c.if-bytes-at.false in
    fault_low a.bytes.now a.at a.field h (omega (arith, e))

pub returns-then-field-value : goal.returns-then-field-value
returns-then-field-value c =
    let a = c.args in
    let e = bits (goal.at.returns-then-field-value c).After-read_field-value in
    let h = c.if-bytes-at.false in
    fault_high a.bytes.now a.at a.field h (omega (arith, e)) (omega (arith, e))

pub returns : goal.returns
returns c =
    let a = c.args in
    let e = bits (goal.at.returns c).After-read_field-value in
    let h = c.if-bytes-at.false in
    took_is a.bytes.now a.at a.field h e (fault-none a.bytes.now a.at a.field h (omega (arith, e)) (omega (arith, e)))
