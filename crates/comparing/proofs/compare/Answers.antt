-- Both recordings are judged before any comparing; then the links decide.
use mathlib.Core.Bool.{not}
use mathlib.Core.Path.{ap}
use mathlib.Core.Path.{◌∙◌}
use Rattle.ranges.specs.Tests.{fails, holds}
use Rattle.recordings.specs.LinkLaws.{compared-refused, compared-refused_other, compared-both, is_paired}
use Rattle.comparing.proofs.compare.Goals as goal

pub returns-then-not-is_well_made : goal.returns-then-not-is_well_made
returns-then-not-is_well_made c =
    let a = c.args in
    compared-refused a.one.now.lengths.now a.one.now.bytes.now a.other.now.lengths.now a.other.now.bytes.now
    (fails c.is_well_made.ensures (ap not c.if-not-is_well_made.true))

pub returns-then-not-is_well_made-2 : goal.returns-then-not-is_well_made-2
returns-then-not-is_well_made-2 c =
    let a = c.args in
    compared-refused_other a.one.now.lengths.now a.one.now.bytes.now a.other.now.lengths.now a.other.now.bytes.now
    (holds c.is_well_made.ensures (ap not c.if-not-is_well_made.false)) (fails c.is_well_made-2.ensures (ap not c.if-not-is_well_made-2.true))

pub first_difference-requires : goal.first_difference-requires
first_difference-requires c =
    let a = c.args in
    is_paired a.one.now.lengths.now a.one.now.bytes.now a.other.now.lengths.now a.other.now.bytes.now
    (holds c.is_well_made.ensures (ap not c.if-not-is_well_made.false)) (holds c.is_well_made-2.ensures (ap not c.if-not-is_well_made-2.false))

pub returns : goal.returns
returns c =
    let a = c.args in
    c.first_difference.ensures
    ∙ compared-both a.one.now.lengths.now a.one.now.bytes.now a.other.now.lengths.now a.other.now.bytes.now
    (holds c.is_well_made.ensures (ap not c.if-not-is_well_made.false))
    (holds c.is_well_made-2.ensures (ap not c.if-not-is_well_made-2.false))
