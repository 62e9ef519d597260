-- On sound tables there is room for every row, so that listing is not refused.
use Rattle.std.proofs.Common.{ap, arith, rules}
use Rattle.ranges.specs.Tests.{at_most}
use Rattle.tables.specs.Lent.{tables_lent}
use Rattle.listing.specs.Listed.{listed_by}
use Rattle.register_text.specs.TextLaws.{asked_rows, print-listed, never-refused}
use Rattle.register_text.proofs.print_register.Goals as goal

pub print_rows-requires : goal.print_rows-requires
print_rows-requires c =
    let p = c.requires in
    let l = c.list_register_sound in
    let f = asked_rows (tables_lent c.args.t.now) p.sound _ (at_most (search rules)) _ l.ensures (ap listed_by c.in-Ok.is) l.auto.list in
    record {
      rows_in_bounds = (f.0, omega (arith, f.1, p.register_most_in_bounds));
      rows_le_most_lines = f.1;
    }

pub returns-in-Ok : goal.returns-in-Ok
returns-in-Ok c =
    let a = c.args in
    let u = tables_lent a.t.now in
    let p = c.requires in
    let l = c.list_register_sound in
    let e = ap listed_by c.in-Ok.is in
    let f = asked_rows u p.sound _ (at_most (search rules)) _ l.ensures e l.auto.list in
    let q = c.print_rows.ensures in (
      print-listed u p.sound _ (at_most (search rules)) _ l.ensures e a.out.now a.at _ _ q.0,
      omega (arith, f.1, q.1),
    )

pub returns-in-Err : goal.returns-in-Err
returns-in-Err c =
    let l = c.list_register_sound in
    let z : ⊥ = never-refused (tables_lent c.args.t.now) c.requires.sound _ (at_most (search rules)) _ l.ensures (ap listed_by c.in-Err.is) in
    absurd z
