-- `coordinator::latest_entries` meets its contract: the loop has laid the keys and the tags of the servers it has passed.
use Rattle.ranges.specs.LaidLaws.{Laying}
use Rattle.coordinator.specs.Latest.{latest_word, latest_tag_at}
use Rattle.coordinator.proofs.latest_entries.Given as goal

abbrev pub invariant-loop-server : goal.invariant-loop-server
invariant-loop-server l = Laying (latest_word l.log l.tag) l.servers l.initial.keys l.server l.keys × Laying (latest_tag_at l.log l.tag) l.servers l.initial.tags l.server l.tags
