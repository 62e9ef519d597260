-- `link_entries::log_entries` meets its contract: the first places hold the words of the keys passed, and the masks.
use Rattle.ranges.specs.LaidLaws.{laying-none, laying-more, laying-all}
use Rattle.link_entries.proofs.log_entries.Goals as goal

pub loop-tag-init : goal.loop-tag-init
loop-tag-init c = let p = c.requires in (laying-none _ _ _ p.1, laying-none _ _ _ p.2)

pub loop-tag-preserved : goal.loop-tag-preserved
loop-tag-preserved c =
    let l = c.loop-tag.invariant in
    let h = c.loop-tag-test.true in
    (laying-more l.0 h c.key_word.ensures, laying-more l.1 h c.entry_mask.ensures)

pub returns : goal.returns
returns c = let l = c.loop-tag.invariant in (laying-all l.0 c.loop-tag-test.false, laying-all l.1 c.loop-tag-test.false)
