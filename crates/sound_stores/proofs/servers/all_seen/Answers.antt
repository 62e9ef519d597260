-- `sound_stores::servers::all_seen` meets its contract: what is noted so far is whether the numbers before `i` pass.
use Rattle.std.proofs.Common.{◌≡◌, sym, ap, ◌∙◌, arith}
use Rattle.std.specs.Prelude.{not}
use Rattle.ranges.specs.All.{all_below}
use Rattle.ranges.specs.AllLaws.{all_none, noted_fails, noted_passes}
use Rattle.sound_stores.proofs.servers.all_seen.Goals.{then-not-test, else-not-test}
use Rattle.sound_stores.proofs.servers.all_seen.Goals as goal

pub loop-i-init : goal.loop-i-init
loop-i-init g c = λ p f. sym (all_none p)

pub loop-i-preserved : goal.loop-i-preserved
loop-i-preserved g c =
    λ p f.
    let i = c.loop-i.i in
    let told = f i c.test.result c.test.ensures in
    elim c.if-not-test.branch [ then-not-test w ↦ noted_fails p i told (ap not w.if-not-test.true) w.all-is | else-not-test w ↦ noted_passes p i (c.loop-i.invariant p f) told (ap not w.if-not-test.false) w.all-is ]

pub returns : goal.returns
returns g c = λ p f. let end : c.loop-i.i ≡ c.args.n = omega (arith, c.loop-i-test.false) in c.loop-i.invariant p f ∙ ap (all_below p) end
