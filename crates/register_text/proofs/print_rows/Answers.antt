-- The rows passed are printed, each in as many bytes as a line can have.
use Prim.Native.Nat.{ℕ}
use mathlib.Core.Path.{◌≡◌, subst, ◌∙◌}
use native.Mathlib.Omega.{arith}
use Rattle.printing.specs.Printed.{Printed}
use Rattle.register_text.specs.Text.{rows_text}
use Rattle.register_text.specs.TextLaws.{printed_no-row, printed-row}
use borrow.Author.Rules.{rules}
use Rattle.register_text.proofs.print_rows.Goals as goal

pub loop-i-init : goal.loop-i-init
loop-i-init c = let a = c.args in (printed_no-row a.out.now a.list.now a.at (omega (arith, c.requires.rows_in_bounds.1)), search rules)

pub loop-i-preserved : goal.loop-i-preserved
loop-i-preserved c =
    let l = c.loop-i in
    let a = c.args in
    let p = c.print_row-next in (
      printed-row a.out.now a.list.now a.at l.i (omega (arith, c.requires.rows_in_bounds.1)) l.invariant.0 p.ensures.0,
      (omega (arith, p.ensures.1, l.invariant.1.0), p.auto.out ∙ l.invariant.1.1),
    )

pub returns : goal.returns
returns c =
    let l = c.loop-i in
    let a = c.args in
    let e : l.i ≡ a.rows = omega (arith, l.auto.i-end, c.loop-i-test.false) in
    (subst (λ (n : ℕ). Printed a.out.now a.at (rows_text a.list.now n) l.next l.out) e l.invariant.0, omega (arith, l.invariant.1.0, e))
