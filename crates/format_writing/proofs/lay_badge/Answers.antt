-- One law a branch.
use borrow.Author.Rules.{rules}
use native.Mathlib.Omega.{arith}
use Rattle.format_writing.specs.Packing.{badge_nowhere, badge-put}
use Rattle.format_writing.proofs.lay_badge.Goals as goal

pub returns-then-width-eq0 : goal.returns-then-width-eq0
returns-then-width-eq0 c =
    let a = c.args in
    badge_nowhere a.width a.badges.now a.i a.bytes.now a.at c.if-width-eq0.true

pub write_field-requires : goal.write_field-requires
write_field-requires c = record { narrow = omega arith; inside = omega (arith, c.requires.1, (c.requires.0 c.if-width-eq0.false).0) }

pub returns : goal.returns
returns c =
    let a = c.args in
    let d = c.if-width-eq0.false in
    badge-put a.width a.badges.now a.i d (c.requires.0 d).0 a.bytes.now a.at c.write_field.ensures

pub offset_bounds-badges-i : goal.offset_bounds-badges-i
offset_bounds-badges-i c = search (rules, (c.requires.0 c.if-width-eq0.false).1)

pub bounds-badges-i : goal.bounds-badges-i
bounds-badges-i c = omega (arith, (c.requires.0 c.if-width-eq0.false).1)
