-- `sound_records::open_sound` meets its contract: none, or exactly one at the place.
use mathlib.Core.Bool.{not}
use mathlib.Core.Path.{ap}
use borrow.Author.Tests.{not-true, not-false, lt-ltb, le-ltb, eq-eqb, ne_eqb}
use Rattle.soundness.specs.Sound.{open_sound}
use Rattle.sound_records.proofs.open_sound.Goals as goal

pub returns-then-not-doing : goal.returns-then-not-doing
unfolding open_sound
returns-then-not-doing c = let e = c.requires.found_value in rw (not-true c.args.doing (ap not c.if-not-doing.true), ← e)

pub returns-then-found-ne1 : goal.returns-then-found-ne1
unfolding open_sound
returns-then-found-ne1 c =
    let e = c.requires.found_value in
    rw (not-false c.args.doing (ap not c.if-not-doing.false), ← e, ne_eqb _ _ c.if-found-ne1.true)

pub returns-then-begun-place : goal.returns-then-begun-place
unfolding open_sound
returns-then-begun-place c =
    let e = c.requires.found_value in
    rw (
      not-false c.args.doing (ap not c.if-not-doing.false),
      ← e,
      eq-eqb _ _ c.if-found-ne1.false,
      le-ltb _ _ c.if-begun-place.true,
    )

pub returns : goal.returns
unfolding open_sound
returns c =
    let e = c.requires.found_value in
    rw (
      not-false c.args.doing (ap not c.if-not-doing.false),
      ← e,
      eq-eqb _ _ c.if-found-ne1.false,
      lt-ltb _ _ c.if-begun-place.false,
    ) c.is_open.ensures
