-- `log_search::latest_tags` meets its contract: the walk has come to `at`; each turn passes over entries that wrote none of the servers
-- left, and those of the entry come to get its tag. The measure is the tag come to.
use native.Mathlib.Omega.{arith}
use Rattle.log_search.specs.TagsLaws.{any-within, walk_begins, walk_passes, walk_finds, walk_done, walk_ends}
use Rattle.log_search.proofs.latest_tags.Goals as goal

pub loop-left-init : goal.loop-left-init
loop-left-init c = let a = c.args in walk_begins a.log.now a.tag a.wanted a.servers a.tags.now

pub latest_of_any-at-requires : goal.latest_of_any-at-requires
latest_of_any-at-requires c =
    let w = c.loop-left.invariant.within in
    let p = c.requires.1.0 in
    record { place = omega (arith, p.place); there = omega (arith, p.there) }

pub returns-then-at-eq0 : goal.returns-then-at-eq0
returns-then-at-eq0 c =
    let a = c.args in
    let come =
    walk_passes a.log.now a.tag a.wanted a.servers a.tags.now c.loop-left.invariant
    c.latest_of_any-at.ensures in
    walk_ends a.log.now a.tag a.wanted a.servers a.tags.now come c.if-at-eq0.true
    c.requires.0 c.requires.1.1

-- the entry come to is there
pub entry_mask-requires : goal.entry_mask-requires
entry_mask-requires c =
    let a = c.args in
    let h = any-within a.log.now c.loop-left.left c.loop-left.at in
    omega (arith, c.latest_of_any-at.ensures, c.loop-left.invariant.within, c.requires.1.0.there)

pub overflow_cast-at : goal.overflow_cast-at
overflow_cast-at c =
    let a = c.args in
    let h = any-within a.log.now c.loop-left.left c.loop-left.at in
    omega (arith, c.latest_of_any-at.ensures, c.loop-left.invariant.within, c.requires.1.0.place)

pub loop-left-smaller : goal.loop-left-smaller
loop-left-smaller c =
    let a = c.args in
    let h = any-within a.log.now c.loop-left.left c.loop-left.at in
    omega (arith, c.latest_of_any-at.ensures, c.if-at-eq0.false)

pub loop-left-preserved : goal.loop-left-preserved
loop-left-preserved c =
    let a = c.args in
    let come =
    walk_passes a.log.now a.tag a.wanted a.servers a.tags.now c.loop-left.invariant
    c.latest_of_any-at.ensures in
    walk_finds a.log.now a.tag a.wanted a.servers a.tags.now come
    c.if-at-eq0.false c.entry_mask.ensures c.without-left.ensures c.put_tag.ensures

pub returns : goal.returns
returns c =
    let a = c.args in
    walk_done a.log.now a.tag a.wanted a.servers a.tags.now c.loop-left.invariant c.loop-left-test.false
