-- `coordinator::latest_entry` meets its contract: the entry at the tag that the search answers, which is at most the tag asked for.
use mathlib.Core.Path.{ap}
use native.Mathlib.Omega.{arith}
use Rattle.coordinator.specs.declared.Latest.{Latest}
use Rattle.coordinator.specs.LatestLaws.{latest-within}
use borrow.Author.Rules.{rules}
use Rattle.coordinator.proofs.latest_entry.Goals as goal

-- the tag found is at most the tag asked for, so its entry is there
pub entry_key-requires : goal.entry_key-requires
entry_key-requires c =
    let a = c.args in
    let found = ap (λ (x : Latest). x.tag) c.search_back-found.ensures in
    let there = c.requires.1.there in
    omega (arith, latest-within a.log.now a.server a.tag)

pub overflow_cast-result : goal.overflow_cast-result
overflow_cast-result c =
    let found = ap (λ (x : Latest). x.tag) c.search_back-found.ensures in
    search (rules, c.requires.1.place, found, latest-within c.args.log.now c.args.server c.args.tag)
