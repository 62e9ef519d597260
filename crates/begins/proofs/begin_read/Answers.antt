-- `begins::begin_read` meets its contract: what its calls left is `begun_read`.
use Rattle.rules.specs.Begin.{begun_read}
use Rattle.begins.proofs.begin_read.Goals as goal

pub returns : goal.returns
unfolding begun_read
returns c =
    λ keys values log writes.
    rw (c.begin.ensures.counts, c.begin.ensures.records, ← c.ask.ensures keys values log writes c.args.reads.now)
