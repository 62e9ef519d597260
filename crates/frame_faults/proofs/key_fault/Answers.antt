-- Each way out is a case of the definition.
use mathlib.Core.Path.{◌≡◌, sym, ◌∙◌}
use native.Mathlib.Omega.{arith}
use Rattle.fields.specs.Bits.{field_at}
use Rattle.fields.specs.ByBytes.{field_by_bytes_lem}
use Rattle.frame_table.specs.Entry.{key_bits}
use Rattle.formats.specs.Judging.{key_cut, key-counted, key-none, key-broken}
use Rattle.frame_faults.proofs.key_fault.Goals.{After-read_field-key}
use Rattle.frame_faults.proofs.key_fault.Goals as goal

pub returns-then-bytes-at : goal.returns-then-bytes-at
returns-then-bytes-at c = let a = c.args in key_cut a.bytes.now a.at c.if-bytes-at.true

-- what was read by bytes is the key bit by bit
module _ (c : After-read_field-key) where
  bits :
      let a = c.args in
      c.read_field-key.result ≡ field_at a.bytes.now a.at key_bits
  bits = c.read_field-key.ensures ∙ field_by_bytes_lem _ _ _

pub returns-then-key-ge16 : goal.returns-then-key-ge16
returns-then-key-ge16 c =
    let a = c.args in
    key-counted a.bytes.now a.at c.if-bytes-at.false (omega (arith, bits (goal.at.returns-then-key-ge16 c).After-read_field-key))

pub returns-then-key-eq0 : goal.returns-then-key-eq0
returns-then-key-eq0 c =
    let a = c.args in
    let e = bits (goal.at.returns-then-key-eq0 c).After-read_field-key in
    key-none a.bytes.now a.at c.if-bytes-at.false (omega (arith, e)) (sym e ∙ c.if-key-eq0.true)

pub returns : goal.returns
returns c =
    let a = c.args in
    let e = bits (goal.at.returns c).After-read_field-key in
    key-broken a.bytes.now a.at c.if-bytes-at.false (omega (arith, e)) (λ z. c.if-key-eq0.false (e ∙ z))
