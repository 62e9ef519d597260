-- `ranges::passed` meets its contract: none before `at` passes, since blocks of which none is seen to pass are passed over.
use Rattle.std.proofs.Common.{refl, sym, ◌+◌, ◌≤◌, arith}
use Rattle.ranges.specs.FirstLaws.{sought-none, sought-all}
use Rattle.ranges.specs.Blocks.{ends_at, block-none, block-next, block-more, block-seen, block-last}
use Rattle.ranges.proofs.passed.Goals as goal

pub loop-at-init : goal.loop-at-init
loop-at-init g c =
    let a = c.args in record {
      within = c.requires.many_nonzero.0;
      passed = λ p s f. s;
      blocks = (0, (block-none a.many a.from, λ p d. sought-none (ends_at p a.many a.n a.from) a.n));
    }

pub loop-at-preserved : goal.loop-at-preserved
loop-at-preserved g c =
    let a = c.args in
    let at = c.loop-at.at in
    let i = c.loop-at.invariant in
    let b = i.blocks in
    let room : at + a.many ≤ a.n = omega arith in record {
      within = room;
      passed = λ p s f. sought-all p (λ k. p (at + k)) a.n at a.many (λ k. refl) (i.passed p s f) room (f at room c.if-seen.ensures);
      blocks = (
        b.0 + 1,
        (
          block-next a.many a.from b.0 b.1.0,
          λ p d. block-more p a.many a.n a.from b.1.0 (b.1.1 p d) c.requires.many_nonzero.1 room (sym (d at _ c.if-seen.ensures)),
        ),
      );
    }

pub returns-then-seen-clause-first : goal.returns-then-seen-clause-first
returns-then-seen-clause-first g c p d =
    let a = c.args in
    let b = c.loop-at.invariant.blocks in
    block-seen p a.many a.n a.from b.1.0 (b.1.1 p d) (sym (d c.loop-at.at _ c.if-seen.ensures))

pub returns-clause-first : goal.returns-clause-first
returns-clause-first g c p d =
    let a = c.args in
    let b = c.loop-at.invariant.blocks in
    block-last p a.many a.n a.from b.1.0 (b.1.1 p d) (omega (arith, c.loop-at-test.false, c.loop-at.invariant.within))
