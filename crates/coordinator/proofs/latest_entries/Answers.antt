-- `coordinator::latest_entries` meets its contract: the loop has laid the keys and the tags of the servers it has passed.
use mathlib.Core.Path.{ap, ◌∙◌}
use native.Mathlib.Omega.{arith}
use Rattle.ranges.specs.LaidLaws.{laying-none, laying-more, laying-all}
use Rattle.keys.specs.Keys.{key_word}
use Rattle.coordinator.proofs.latest_entries.Goals as goal

pub loop-server-init : goal.loop-server-init
loop-server-init c = (laying-none _ _ _ c.requires.servers_bound.1.0, laying-none _ _ _ c.requires.servers_bound.1.1)

pub loop-server-preserved : goal.loop-server-preserved
loop-server-preserved c =
    let v = c.loop-server.invariant in
    let found = c.latest_entry-latest.ensures in
    (laying-more v.0 (omega arith) (c.word.ensures ∙ ap (λ x. key_word x.key) found), laying-more v.1 (omega arith) (ap (λ x. x.tag) found))

pub returns : goal.returns
returns c =
    let v = c.loop-server.invariant in record {
      keys = laying-all v.0 (omega arith);
      tags = laying-all v.1 (omega arith);
    }
