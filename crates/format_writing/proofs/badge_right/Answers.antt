-- One law a branch.
use borrow.Author.Rules.{rules}
use native.Mathlib.Omega.{arith}
use Rattle.format_writing.specs.Packing.{badge_lacking, badge-fits}
use Rattle.format_writing.proofs.badge_right.Goals as goal

pub returns-then-width-eq0 : goal.returns-then-width-eq0
returns-then-width-eq0 c = let a = c.args in badge_lacking a.width a.badges.now a.i c.if-width-eq0.true

pub returns : goal.returns
returns c =
    let d = c.if-width-eq0.false in
    badge-fits c.args.width c.args.badges.now c.args.i d (c.requires d).0 c.fits_in.ensures

pub offset_bounds-badges-i : goal.offset_bounds-badges-i
offset_bounds-badges-i c = search (rules, (c.requires c.if-width-eq0.false).1)

pub bounds-badges-i : goal.bounds-badges-i
bounds-badges-i c = omega (arith, (c.requires c.if-width-eq0.false).1)
