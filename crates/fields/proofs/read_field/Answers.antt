-- Each number of the match is the width.
use mathlib.Core.Path.{sym, ap, ◌∙◌}
use Rattle.fields.specs.Parts.{field_by_bytes}
use Rattle.fields.proofs.read_field.Goals as goal

pub returns-in-4 : goal.returns-in-4
returns-in-4 c =
    let a = c.args in
    c.by_bytes.ensures ∙ ap (field_by_bytes a.bytes.now a.at) (sym c.in-4.is)

pub returns-in-5 : goal.returns-in-5
returns-in-5 c =
    let a = c.args in
    c.by_bytes-in-5.ensures ∙ ap (field_by_bytes a.bytes.now a.at) (sym c.in-5.is)

pub returns-in-8 : goal.returns-in-8
returns-in-8 c =
    let a = c.args in
    c.by_bytes-in-8.ensures ∙ ap (field_by_bytes a.bytes.now a.at) (sym c.in-8.is)

pub returns-in-12 : goal.returns-in-12
returns-in-12 c =
    let a = c.args in
    c.by_bytes-in-12.ensures ∙ ap (field_by_bytes a.bytes.now a.at) (sym c.in-12.is)

pub returns-in-16 : goal.returns-in-16
returns-in-16 c =
    let a = c.args in
    c.by_bytes-in-16.ensures ∙ ap (field_by_bytes a.bytes.now a.at) (sym c.in-16.is)

pub returns-in-32 : goal.returns-in-32
returns-in-32 c =
    let a = c.args in
    c.by_bytes-in-32.ensures ∙ ap (field_by_bytes a.bytes.now a.at) (sym c.in-32.is)

pub returns-in_default : goal.returns-in_default
returns-in_default c = c.by_bytes-in_default.ensures
