-- A kind picks the row of the definition; a number that is none of the twelve has no field behind the header.
use mathlib.Core.Path.{◌≡◌, sym, ap, ◌∙◌}
use Prim.Native.Nat.{ℕ, ◌≤◌}
use native.Mathlib.Omega.{arith}
use lib.ListN.{get_or}
use Rattle.ranges.specs.Tests.{by_equal}
use Rattle.frame_table.specs.Table.{bare, bodies}
use Rattle.frame_table.specs.TableLaws.{past, row_by, body-none}
use Rattle.frame_table.proofs.row_of.Goals as goal

-- the body of a kind that the match has picked
body_of : (kind k : ℕ) → kind ≡ k → get_or bodies k bare ≡ get_or bodies kind bare
body_of kind k e = ap (λ (n : ℕ). get_or bodies n bare) (sym e)

pub returns-in_default : goal.returns-in_default
returns-in_default c =
    let k = c.args.kind in
    let r = c.in_default.in_default-own.rest in
    c.row-in_default.ensures
    ∙ row_by k c.requires
    (by_equal k 0
    (body_of k 0)
    (λ d.
    let low : 5 ≤ k =
    past 4 k (past 3 k (past 2 k (past 1 k (omega arith) r.0.0.0.0.0.0.0.0.0.0.0.1) r.0.0.0.0.0.0.0.0.0.0.1)
    r.0.0.0.0.0.0.0.0.0.1) r.0.0.0.0.0.0.0.0.1 in
    let middle : 9 ≤ k =
    past 8 k (past 7 k (past 6 k (past 5 k low r.0.0.0.0.0.0.0.1) r.0.0.0.0.0.0.1) r.0.0.0.0.0.1)
    r.0.0.0.0.1 in
    body-none k (past 12 k (past 11 k (past 10 k (past 9 k middle r.0.0.0.1) r.0.0.1) r.0.1) r.1)))

pub returns-in-1 : goal.returns-in-1
returns-in-1 c = c.row.ensures ∙ row_by c.args.kind c.requires (body_of _ 1 c.in-1.is)

pub returns-in-2 : goal.returns-in-2
returns-in-2 c = c.row-in-2.ensures ∙ row_by c.args.kind c.requires (body_of _ 2 c.in-2.is)

pub returns-in-3 : goal.returns-in-3
returns-in-3 c = c.row-in-3.ensures ∙ row_by c.args.kind c.requires (body_of _ 3 c.in-3.is)

pub returns-in-4 : goal.returns-in-4
returns-in-4 c = c.row-in-4.ensures ∙ row_by c.args.kind c.requires (body_of _ 4 c.in-4.is)

pub returns-in-5 : goal.returns-in-5
returns-in-5 c = c.row-in-5.ensures ∙ row_by c.args.kind c.requires (body_of _ 5 c.in-5.is)

pub returns-in-6 : goal.returns-in-6
returns-in-6 c = c.row-in-6.ensures ∙ row_by c.args.kind c.requires (body_of _ 6 c.in-6.is)

pub returns-in-7 : goal.returns-in-7
returns-in-7 c = c.row-in-7.ensures ∙ row_by c.args.kind c.requires (body_of _ 7 c.in-7.is)

pub returns-in-8 : goal.returns-in-8
returns-in-8 c = c.row-in-8.ensures ∙ row_by c.args.kind c.requires (body_of _ 8 c.in-8.is)

pub returns-in-9 : goal.returns-in-9
returns-in-9 c = c.row-in-9.ensures ∙ row_by c.args.kind c.requires (body_of _ 9 c.in-9.is)

pub returns-in-10 : goal.returns-in-10
returns-in-10 c = c.row-in-10.ensures ∙ row_by c.args.kind c.requires (body_of _ 10 c.in-10.is)

pub returns-in-11 : goal.returns-in-11
returns-in-11 c = c.row-in-11.ensures ∙ row_by c.args.kind c.requires (body_of _ 11 c.in-11.is)

pub returns-in-12 : goal.returns-in-12
returns-in-12 c = c.row-in-12.ensures ∙ row_by c.args.kind c.requires (body_of _ 12 c.in-12.is)
