-- `link_entries::log_entries` meets its contract: the first places hold the words of the keys passed, and the masks.
use Rattle.tables.specs.Rows.{word_at}
use Rattle.tables.specs.Layout.{entry_width, entry_mask}
use Rattle.ranges.specs.LaidLaws.{Laying}
use Rattle.link_entries.proofs.log_entries.Given as goal

abbrev pub invariant-loop-tag : goal.invariant-loop-tag
invariant-loop-tag l = Laying (λ t. word_at entry_width l.log t 0) l.entries l.initial.words l.tag l.words × Laying (entry_mask l.log) l.entries l.initial.masks l.tag l.masks
