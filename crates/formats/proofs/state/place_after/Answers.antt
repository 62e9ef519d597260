-- One law a branch.
use mathlib.Core.Path.{sym}
use Rattle.formats.specs.FormatLaws.{place-last, place_inner}
use Rattle.formats.proofs.state.place_after.Goals as goal

pub returns-then-place-eq-NUMBER : goal.returns-then-place-eq-NUMBER
returns-then-place-eq-NUMBER c = sym (place-last c.args.place c.if-place-eq-NUMBER.true)

pub returns : goal.returns
returns c = sym (place_inner c.args.place c.if-place-eq-NUMBER.false)
