-- So many zeros, which are not laid out here.
use Rattle.compare_recordings.specs.Held.{zeros-length}
use Rattle.compare_recordings.proofs.space.Goals as goal

pub returns : goal.returns
returns c = zeros-length 1048576
