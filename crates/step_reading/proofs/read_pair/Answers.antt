-- Without a first number there is no step; else what stands behind it decides.
use Rattle.std.proofs.Common.{refl, ap, ◌∙◌, arith}
use Rattle.schedule.specs.NumberLaws.{spaced_sized}
use Rattle.schedule.specs.Steps.{reading_of}
use Rattle.schedule.specs.PairLaws.{first-none, first_then}
use Rattle.step_reading.proofs.read_pair.Goals as goal

pub overflow_add-first : goal.overflow_add-first
overflow_add-first c = omega (arith, spaced_sized c.args.part.now c.in-Some.ensures refl)

pub read_second-requires : goal.read_second-requires
read_second-requires c = omega (arith, spaced_sized c.args.part.now c.in-Some.ensures refl)

pub returns-in_default : goal.returns-in_default
returns-in_default c =
    let a = c.args in
    c.unreadable.ensures ∙ ap reading_of (first-none a.byte c.requires a.part.now c.in_default.ensures refl)

pub returns : goal.returns
returns c =
    let a = c.args in
    c.read_second.ensures ∙ ap reading_of (first_then a.byte c.requires a.part.now c.in-Some.ensures refl)
