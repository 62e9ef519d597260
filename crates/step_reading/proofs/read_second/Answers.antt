-- The part ends behind the second number, or there is no step: no second number, or something behind it.
use Rattle.std.proofs.Common.{◌≡◌, ◌+◌, ◌<◌, refl, ap, ◌∙◌, arith, length, drop, length-drop}
use Rattle.schedule.specs.NumberLaws.{spaced_sized}
use Rattle.schedule.specs.Steps.{reading_of}
use Rattle.schedule.specs.PairLaws.{second_none, second-last, second_more}
use Rattle.step_reading.proofs.read_second.Goals as goal

pub overflow_add-at-2 : goal.overflow_add-at-2
overflow_add-at-2 c =
    let a = c.args in
    let w = spaced_sized (drop a.at a.part.now) c.in-Some.ensures refl in
    omega (arith, w.1, length-drop a.at a.part.now)

pub returns-in_default : goal.returns-in_default
returns-in_default c =
    let a = c.args in
    let s = drop a.at a.part.now in
    c.unreadable.ensures ∙ ap reading_of (second_none a.byte a.first s c.in_default.ensures refl)

pub returns-then-at-second : goal.returns-then-at-second
returns-then-at-second c =
    let a = c.args in
    let s = drop a.at a.part.now in
    let ends : length s ≡ 1 + c.in-Some.second.size = omega (arith, c.if-at-second.true, length-drop a.at a.part.now) in
    c.name_pair.ensures ∙ ap reading_of (second-last a.byte a.first s c.in-Some.ensures refl ends)

pub returns-else-at-second : goal.returns-else-at-second
returns-else-at-second c =
    let a = c.args in
    let s = drop a.at a.part.now in
    let w = spaced_sized s c.in-Some.ensures refl in
    let more : 1 + c.in-Some.second.size < length s = omega (arith, w.1, c.if-at-second.false, length-drop a.at a.part.now) in
    c.unreadable-else-at-second.ensures ∙ ap reading_of (second_more a.byte a.first s c.in-Some.ensures refl more)
