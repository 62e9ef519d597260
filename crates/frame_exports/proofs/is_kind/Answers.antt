-- `frame_exports::is_kind` meets its contract: 0 is none, and the others are up to 12.
use Rattle.frame_exports.specs.Writing.{no_kind, up_to_12}
use Rattle.frame_exports.proofs.is_kind.Goals as goal

pub returns-then-kind-eq0 : goal.returns-then-kind-eq0
returns-then-kind-eq0 c = no_kind c.args.kind c.if-kind-eq0.true

pub returns : goal.returns
returns c = up_to_12 c.args.kind c.if-kind-eq0.false
