-- A field that the kind lacks has the value 0; any other is tested by its limits.
use mathlib.Core.Path.{sym, ◌∙◌}
use Rattle.format_writing.specs.Writing.{allows_is}
use Rattle.format_writing.specs.Packing.{nothing_right}
use Rattle.format_writing.proofs.may_have.Goals as goal

pub returns-then-sort-eq-NO : goal.returns-then-sort-eq-NO
returns-then-sort-eq-NO c = nothing_right c.args.state c.args.value (sym c.requires.0 ∙ c.if-sort-eq-NO.true)

pub returns : goal.returns
returns c =
    let a = c.args in
    allows_is a.state a.value c.field_at-field.ensures.0 c.allows.ensures
