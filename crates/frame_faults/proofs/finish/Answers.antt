-- Each way out is a case of the definition: more than padding is left, the padding is zero, or it is not.
use mathlib.Core.Path.{sym, ◌∙◌}
use Rattle.fields.specs.ByBytes.{field_by_bytes_lem}
use Rattle.formats.specs.Reading.{end_long, end-zero, end-some}
use Rattle.frame_faults.proofs.finish.Goals as goal

pub returns-then-at-n : goal.returns-then-at-n
returns-then-at-n c = let a = c.args in end_long a.bytes.now a.at c.if-at-n.true

pub returns-then-read_field-eq0 : goal.returns-then-read_field-eq0
returns-then-read_field-eq0 c =
    let a = c.args in
    let bits = c.read_field.ensures ∙ field_by_bytes_lem _ _ _ in
    end-zero a.bytes.now a.at c.if-at-n.false (sym bits ∙ c.if-read_field-eq0.true)

pub returns : goal.returns
returns c =
    let a = c.args in
    let bits = c.read_field.ensures ∙ field_by_bytes_lem _ _ _ in
    end-some a.bytes.now a.at c.if-at-n.false (λ e. c.if-read_field-eq0.false (bits ∙ e))
