-- The key is that of its count and client.
use Rattle.frame_exports.proofs.fixed_from.Goals as goal

pub returns : goal.returns
returns c = rw c.new-key.ensures
