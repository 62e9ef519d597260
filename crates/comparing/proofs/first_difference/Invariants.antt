-- `comparing::first_difference` meets its contract: the links before this one have no difference, so that those from it on decide.
use Prim.Native.Nat.{◌-◌}
use Rattle.recordings.specs.Recording.{frames_of}
use Rattle.recordings.specs.Comparing.{links}
use Rattle.recordings.specs.LinkLaws.{Linked}
use Rattle.comparing.proofs.first_difference.Given as goal

abbrev pub invariant-loop-link : goal.invariant-loop-link
invariant-loop-link l = Linked (frames_of l.one.lengths.now l.one.bytes.now) (frames_of l.other.lengths.now l.other.bytes.now) l.link
