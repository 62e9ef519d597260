-- `log_search::latest_tags` meets its contract: the walk has come to `at`; each turn passes over entries that wrote none of the servers
-- left, and those of the entry come to get its tag. The measure is the tag come to.
use Rattle.log_search.specs.TagsLaws.{Walked}
use Rattle.log_search.proofs.latest_tags.Given as goal

abbrev pub invariant-loop-left : goal.invariant-loop-left
invariant-loop-left l = Walked l.log l.tag l.wanted l.servers l.initial.tags l.left l.at l.tags

abbrev pub decreases-loop-left : goal.decreases-loop-left
decreases-loop-left l = l.at
