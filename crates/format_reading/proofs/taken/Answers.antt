-- A field that the kind lacks has no bits, and so no fault; any other is taken by its limits.
use Rattle.std.proofs.Common.{sym, ◌∙◌, subst, arith}
use Rattle.frame_table.specs.declared.Field.{Field}
use Rattle.formats.specs.Reading.{took_at, took-nothing}
use Rattle.formats.specs.Results.{Takes, takes_narrow}
use Rattle.format_reading.proofs.taken.Goals as goal

pub returns-then-sort-eq-NO : goal.returns-then-sort-eq-NO
returns-then-sort-eq-NO c =
    record {
      takes = took-nothing c.args.bytes.now c.args.at c.args.state (sym c.requires.2 ∙ c.if-sort-eq-NO.true) c.requires.1;
      narrow = omega arith;
    }

pub returns : goal.returns
returns c =
    let a = c.args in
    let e = c.take.ensures in
    let P : Field → Type 0 = λ f. Takes c.take.result (took_at a.bytes.now a.at f) in
    record { takes = subst P c.field_at-field.ensures.0 e; narrow = takes_narrow c.take.result _ e c.field_at-field.ensures.1 }
