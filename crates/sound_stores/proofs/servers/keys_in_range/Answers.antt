-- `sound_stores::servers::keys_in_range` meets its contract: one part of the range behind the other.
use mathlib.Core.Bool.{not}
use mathlib.Core.Path.{ap}
use Prim.Native.Nat.{◌≤◌, ◌<◌}
use mathlib.Core.Path.{sym, ◌∙◌}
use Rattle.ranges.specs.Tests.{and_stops, and_goes_on, fails, holds}
use Rattle.tables.specs.Layout.{version_word}
use Rattle.soundness.specs.KeyParts.{all_in-parts}
use borrow.Author.Rules.{rules}
use Rattle.sound_stores.proofs.servers.keys_in_range.Goals as goal

pub returns-then-not-keys_counted : goal.returns-then-not-keys_counted
returns-then-not-keys_counted c =
    let a = c.args in
    let some : 0 < a.clients = search rules in
    let few : a.clients ≤ 16 = search rules in
    sym (all_in-parts a.clients some few (version_word a.keys.now a.server) a.held
    ∙ and_stops _ (fails c.keys_counted.ensures (ap not c.if-not-keys_counted.true)))

pub returns : goal.returns
returns c =
    let a = c.args in
    let some : 0 < a.clients = search rules in
    let few : a.clients ≤ 16 = search rules in
    sym (all_in-parts a.clients some few (version_word a.keys.now a.server) a.held
    ∙ and_goes_on _ (holds c.keys_counted.ensures (ap not c.if-not-keys_counted.false)) (sym c.keys_owned.ensures))
