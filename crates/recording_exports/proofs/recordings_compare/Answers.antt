-- The number of the answer that comparing gives.
use mathlib.Core.Path.{ap, ◌∙◌}
use Rattle.recording_exports.specs.Numbers.{compared_number}
use Rattle.recording_exports.proofs.recordings_compare.Goals as goal

pub returns : goal.returns
returns c = c.compared_number.ensures ∙ ap compared_number c.compare.ensures
