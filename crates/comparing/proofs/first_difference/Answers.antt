-- `comparing::first_difference` meets its contract: the links before this one have no difference, so that those from it on decide.
use Rattle.std.proofs.Common.{ap}
use Rattle.recordings.specs.Results.{place_by}
use Rattle.recordings.specs.Recording.{frames_of}
use Rattle.recordings.specs.LinkLaws.{linked-start, linked-end, linked_differs, linked_on}
use Rattle.comparing.proofs.first_difference.Goals as goal

pub loop-link-init : goal.loop-link-init
loop-link-init c = linked-start _ _

pub difference_on-requires : goal.difference_on-requires
difference_on-requires c = c.requires

pub returns-in-Some : goal.returns-in-Some
returns-in-Some c =
    let a = c.args in
    linked_differs (frames_of a.one.now.lengths.now a.one.now.bytes.now) (frames_of a.other.now.lengths.now a.other.now.bytes.now) c.loop-link.invariant
    c.loop-link-test.true c.difference_on.ensures (ap place_by c.in-Some.is)

pub loop-link-preserved : goal.loop-link-preserved
loop-link-preserved c =
    let a = c.args in
    linked_on (frames_of a.one.now.lengths.now a.one.now.bytes.now) (frames_of a.other.now.lengths.now a.other.now.bytes.now) c.loop-link.invariant
    c.loop-link-test.true c.difference_on.ensures (ap place_by c.in_default.is)

pub returns : goal.returns
returns c = linked-end _ _ c.loop-link.invariant c.loop-link-test.false
