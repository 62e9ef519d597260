-- Places for keys and numbers are always needed, those for badges only where the kind's entries have them.
use mathlib.Core.Bool.{not}
use mathlib.Core.Path.{ap}
use Rattle.ranges.specs.Tests.{fails, holds}
use Rattle.frame_entries.specs.Storable.{enough-keys, enough-numbers, enough_plain, enough_badges}
use Rattle.frame_entries.proofs.enough_places.Goals as goal

pub returns-then-keys-entries : goal.returns-then-keys-entries
returns-then-keys-entries c = let a = c.args in enough-keys a.kind a.entries a.keys a.badges a.numbers c.if-keys-entries.true

pub returns-then-numbers-entries : goal.returns-then-numbers-entries
returns-then-numbers-entries c =
    let a = c.args in
    enough-numbers a.kind a.entries a.keys a.badges a.numbers c.if-keys-entries.false c.if-numbers-entries.true

pub returns-then-not-has_badges : goal.returns-then-not-has_badges
returns-then-not-has_badges c =
    let a = c.args in
    enough_plain a.kind a.entries a.keys a.badges a.numbers c.if-keys-entries.false c.if-numbers-entries.false
    (fails c.has_badges.ensures (ap not c.if-not-has_badges.true))

pub returns : goal.returns
returns c =
    let a = c.args in
    enough_badges a.kind a.entries a.keys a.badges a.numbers c.if-keys-entries.false c.if-numbers-entries.false
    (holds c.has_badges.ensures (ap not c.if-not-has_badges.false))
