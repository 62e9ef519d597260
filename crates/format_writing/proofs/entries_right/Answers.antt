-- What is left of the entries decides as all of them do.
use mathlib.Core.Bool.{not}
use mathlib.Core.Path.{◌≡◌, ap, ◌∙◌}
use Prim.Native.Nat.{◌+◌, ◌-◌}
use native.Mathlib.Omega.{arith}
use Rattle.format_writing.specs.Packing.{entries_right, right_key, right-badge, right-number, right_on, right_end}
use Rattle.format_writing.proofs.entries_right.Goals as goal

pub loop-i-init : goal.loop-i-init
loop-i-init c =
    let a = c.args in
    (omega arith, ap (entries_right a.behind a.keys.now a.badges.now a.numbers.now 0) (omega arith))

pub returns-then-not-key_right : goal.returns-then-not-key_right
returns-then-not-key_right c =
    let l = c.loop-i in
    let a = c.args in
    right_key a.behind a.keys.now a.badges.now a.numbers.now l.i (a.entries - l.i)
    (omega (arith, c.loop-i-test.true))
    c.key_right.ensures (ap not c.if-not-key_right.true)
    ∙ l.invariant.1

pub badge_right-requires : goal.badge_right-requires
badge_right-requires c d =
    let p = c.requires in
    (p.slim.badged d, omega (arith, c.loop-i-test.true, p.for_badges d))

pub returns-then-not-badge_right : goal.returns-then-not-badge_right
returns-then-not-badge_right c =
    let l = c.loop-i in
    let a = c.args in
    right-badge a.behind a.keys.now a.badges.now a.numbers.now l.i (a.entries - l.i)
    (omega (arith, c.loop-i-test.true))
    c.key_right.ensures (ap not c.if-not-key_right.false) c.badge_right.ensures (ap not c.if-not-badge_right.true)
    ∙ l.invariant.1

pub returns-then-not-number_right : goal.returns-then-not-number_right
returns-then-not-number_right c =
    let l = c.loop-i in
    let a = c.args in
    right-number a.behind a.keys.now a.badges.now a.numbers.now l.i (a.entries - l.i)
    (omega (arith, c.loop-i-test.true))
    c.key_right.ensures (ap not c.if-not-key_right.false) c.badge_right.ensures (ap not c.if-not-badge_right.false)
    c.number_right.ensures (ap not c.if-not-number_right.true)
    ∙ l.invariant.1

pub loop-i-preserved : goal.loop-i-preserved
loop-i-preserved c =
    let l = c.loop-i in
    let a = c.args in
    let one_less : a.entries - (l.i + 1) ≡ a.entries - l.i - 1 = omega arith in (
      omega (arith, c.loop-i-test.true),
      ap (entries_right a.behind a.keys.now a.badges.now a.numbers.now (l.i + 1)) one_less
          ∙ right_on a.behind a.keys.now a.badges.now a.numbers.now l.i (a.entries - l.i)
          (omega (arith, c.loop-i-test.true))
          c.key_right.ensures (ap not c.if-not-key_right.false) c.badge_right.ensures (ap not c.if-not-badge_right.false)
          c.number_right.ensures (ap not c.if-not-number_right.false)
          ∙ l.invariant.1,
    )

pub returns : goal.returns
returns c =
    let l = c.loop-i in
    let a = c.args in
    right_end a.behind a.keys.now a.badges.now a.numbers.now l.i (a.entries - l.i)
    (omega (arith, c.loop-i-test.false))
    ∙ l.invariant.1

pub bounds-keys-i : goal.bounds-keys-i
bounds-keys-i c = omega (arith, c.requires.for-keys)

pub bounds-numbers-i : goal.bounds-numbers-i
bounds-numbers-i c = omega (arith, c.requires.for-numbers)
