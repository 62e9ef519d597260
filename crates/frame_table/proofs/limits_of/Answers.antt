-- The sort picks the row of the definition; where it is none of the first fifteen, it is the last.
use mathlib.Core.Path.{◌≡◌, sym, ap, ◌∙◌}
use Prim.Native.Nat.{◌≤◌}
use native.Mathlib.Omega.{arith}
use Rattle.frame_table.specs.Table.{less, limits_of}
use Rattle.frame_table.specs.TableLaws.{past}
use Rattle.frame_table.proofs.limits_of.Goals as goal

pub returns-in_default : goal.returns-in_default
returns-in_default c =
    let s = c.args.sort in
    let r = c.in_default.in_default-own.rest in
    let h1 : 1 ≤ s = past 0 s (omega arith) r.0.0.0.0.0.0.0.0.0.0.0.0.0.0.1 in
    let h2 : 2 ≤ s = past 1 s h1 r.0.0.0.0.0.0.0.0.0.0.0.0.0.1 in
    let h3 : 3 ≤ s = past 2 s h2 r.0.0.0.0.0.0.0.0.0.0.0.0.1 in
    let h4 : 4 ≤ s = past 3 s h3 r.0.0.0.0.0.0.0.0.0.0.0.1 in
    let h5 : 5 ≤ s = past 4 s h4 r.0.0.0.0.0.0.0.0.0.0.1 in
    let h6 : 6 ≤ s = past 5 s h5 r.0.0.0.0.0.0.0.0.0.1 in
    let h7 : 7 ≤ s = past 6 s h6 r.0.0.0.0.0.0.0.0.1 in
    let h8 : 8 ≤ s = past 7 s h7 r.0.0.0.0.0.0.0.1 in
    let h9 : 9 ≤ s = past 8 s h8 r.0.0.0.0.0.0.1 in
    let h10 : 10 ≤ s = past 9 s h9 r.0.0.0.0.0.1 in
    let h11 : 11 ≤ s = past 10 s h10 r.0.0.0.0.1 in
    let h12 : 12 ≤ s = past 11 s h11 r.0.0.0.1 in
    let h13 : 13 ≤ s = past 12 s h12 r.0.0.1 in
    let h14 : 14 ≤ s = past 13 s h13 r.0.1 in
    let h15 : 15 ≤ s = past 14 s h14 r.1 in
    let e : s ≡ less = omega (arith, c.requires) in
    c.limits-in_default.ensures ∙ ap limits_of (sym e)

pub returns-in-0 : goal.returns-in-0
returns-in-0 c = c.limits.ensures ∙ ap limits_of (sym c.in-0.is)

pub returns-in-1 : goal.returns-in-1
returns-in-1 c = c.limits-in-1.ensures ∙ ap limits_of (sym c.in-1.is)

pub returns-in-2 : goal.returns-in-2
returns-in-2 c = c.limits-in-2.ensures ∙ ap limits_of (sym c.in-2.is)

pub returns-in-3 : goal.returns-in-3
returns-in-3 c = c.limits-in-3.ensures ∙ ap limits_of (sym c.in-3.is)

pub returns-in-4 : goal.returns-in-4
returns-in-4 c = c.limits-in-4.ensures ∙ ap limits_of (sym c.in-4.is)

pub returns-in-5 : goal.returns-in-5
returns-in-5 c = c.limits-in-5.ensures ∙ ap limits_of (sym c.in-5.is)

pub returns-in-6 : goal.returns-in-6
returns-in-6 c = c.limits-in-6.ensures ∙ ap limits_of (sym c.in-6.is)

pub returns-in-7 : goal.returns-in-7
returns-in-7 c = c.limits-in-7.ensures ∙ ap limits_of (sym c.in-7.is)

pub returns-in-8 : goal.returns-in-8
returns-in-8 c = c.limits-in-8.ensures ∙ ap limits_of (sym c.in-8.is)

pub returns-in-9 : goal.returns-in-9
returns-in-9 c = c.limits-in-9.ensures ∙ ap limits_of (sym c.in-9.is)

pub returns-in-10 : goal.returns-in-10
returns-in-10 c = c.limits-in-10.ensures ∙ ap limits_of (sym c.in-10.is)

pub returns-in-11 : goal.returns-in-11
returns-in-11 c = c.limits-in-11.ensures ∙ ap limits_of (sym c.in-11.is)

pub returns-in-12 : goal.returns-in-12
returns-in-12 c = c.limits-in-12.ensures ∙ ap limits_of (sym c.in-12.is)

pub returns-in-13 : goal.returns-in-13
returns-in-13 c = c.limits-in-13.ensures ∙ ap limits_of (sym c.in-13.is)

pub returns-in-14 : goal.returns-in-14
returns-in-14 c = c.limits-in-14.ensures ∙ ap limits_of (sym c.in-14.is)
