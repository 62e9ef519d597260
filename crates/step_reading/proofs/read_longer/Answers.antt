-- A fault among the numbers is no step; else the numbers, which stand at the front of their place, decide.
use Rattle.std.proofs.Common.{refl}
use Rattle.schedule.specs.StepLaws.{names-none, part-broken, part_names, count-within, part_length, part-fits}
use Rattle.step_reading.proofs.read_longer.Goals as goal

pub slice_bounds-numbers-end : goal.slice_bounds-numbers-end
slice_bounds-numbers-end c =
    let read = c.in-Some.ensures in
    let a = c.args in
    count-within a.byte a.part.now _ _ read.0 refl read.1

pub slice_bounds-name_step-end : goal.slice_bounds-name_step-end
slice_bounds-name_step-end c =
    let read = c.in-Some.ensures in
    let a = c.args in
    part_length a.byte a.part.now _ _ read.0 refl read.1

pub name_step-requires : goal.name_step-requires
name_step-requires c =
    let read = c.in-Some.ensures in
    let a = c.args in
    part-fits a.byte a.part.now _ _ read.0 refl read.1 _ c.numbers_in.auto.numbers c.requires.1

pub returns-in_default : goal.returns-in_default
returns-in_default c =
    let a = c.args in
    names-none a.setpoints.now (part-broken a.byte a.part.now c.in_default.ensures.0 refl) c.unreadable.ensures

pub returns : goal.returns
returns c =
    let read = c.in-Some.ensures in
    let a = c.args in
    part_names a.byte a.part.now _ _ read.0 refl read.1 c.name_step.ensures
