-- One law a branch; a value of 32 bits is far from wrapping.
use mathlib.Core.Path.{◌≡◌, ap, ◌∙◌}
use Prim.Native.Nat.{ℕ}
use native.Mathlib.Omega.{arith}
use Rattle.frame_table.specs.Table.{sort_at, entries_in}
use Rattle.frame_table.specs.TableLaws.{entries_by, entries-most}
use Rattle.formats.specs.FormatLaws.{left-entries, left-one-less}
use Rattle.formats.proofs.state.left_after.Goals.{After-entries_in}
use Rattle.formats.proofs.state.left_after.Goals as goal

module _ (c : After-entries_in) where
  many : c.entries_in.result ≡ entries_in c.args.state.kind c.args.value
  many =
      entries_by c.args.state.kind c.args.value (c.requires.1 ∙ ap (λ (p : ℕ). sort_at c.args.state.kind p) c.if-state-eq-MANY.true) c.entries_in.ensures

pub overflow_mul-result : goal.overflow_mul-result
overflow_mul-result c = let a = c.args in omega (arith, many c, entries-most a.state.kind a.value)

pub returns-then-state-eq-MANY : goal.returns-then-state-eq-MANY
returns-then-state-eq-MANY c = let a = c.args in left-entries a.state a.value c.if-state-eq-MANY.true (many c)

pub returns : goal.returns
returns c = let a = c.args in left-one-less a.state a.value c.if-state-eq-MANY.false
