-- The kind tells which line the row is.
use Rattle.register_text.specs.TextLaws.{row_write, row_read, printed_as}
use Rattle.register_text.proofs.print_row.Goals as goal

pub returns-then-row-eq0 : goal.returns-then-row-eq0
returns-then-row-eq0 c =
    let a = c.args in
    printed_as a.out.now a.at _ (row_write a.row.now c.if-row-eq0.true) c.print_write_record.ensures

pub returns : goal.returns
returns c = let a = c.args in let p = c.print_read_record.ensures in printed_as a.out.now a.at _ (row_read a.row.now c.if-row-eq0.false) p
