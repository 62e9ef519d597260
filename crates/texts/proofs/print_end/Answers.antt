-- Before an opening there is no register; behind one the tables are sound.
use Rattle.std.proofs.Common.{sym, ◌∙◌, arith}
use Rattle.tables.specs.Lent.{tables_lent}
use Rattle.texts.specs.TextLaws.{unopened_printed, opened_printed}
use Rattle.texts.proofs.print_end.Goals as goal

pub returns-then-count_at-eq0 : goal.returns-then-count_at-eq0
returns-then-count_at-eq0 c =
    let a = c.args in
    let none = sym c.count_at.ensures ∙ c.if-count_at-eq0.true in
    (unopened_printed (tables_lent a.t.now) a.out.now a.at (omega (arith, c.requires.register_most_in_bounds)) none, omega arith)

pub print_register-requires : goal.print_register-requires
print_register-requires c =
    record {
      sound = c.requires.playable.sound (omega (arith, c.count_at.ensures, c.if-count_at-eq0.false));
      register_most_in_bounds = c.requires.register_most_in_bounds;
    }

pub returns : goal.returns
returns c =
    let a = c.args in
    opened_printed (tables_lent a.t.now) a.out.now a.at _ _ _ (λ e. c.if-count_at-eq0.false (c.count_at.ensures ∙ e)) c.print_register.ensures
