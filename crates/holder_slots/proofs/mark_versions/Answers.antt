-- `holder_slots::mark_versions` meets its contract: a turn of the loop is a turn of `turns`.
use Rattle.std.proofs.Common.{◌∙◌, arith}
use Prim.Native.Nat.{◌<◌, ◌^◌}
use lib.Pow.{pow-lt}
use Rattle.ranges.specs.Turns.{turns-none, turns_more}
use Rattle.holder_slots.proofs.mark_versions.Goals as goal

pub overflow_cast-mask : goal.overflow_cast-mask
overflow_cast-mask c = let h : 2 ^ c.args.server < 2 ^ 16 = pow-lt c.requires.server_bound.0 in omega (arith, c.one_server-mask.ensures, h)

pub loop-place-init : goal.loop-place-init
loop-place-init c = turns-none _ _

pub loop-place-preserved : goal.loop-place-preserved
loop-place-preserved c = turns_more _ _ _ c.loop-place.invariant (c.mark.ensures ∙ rw (c.one_server-mask.ensures, c.key_word.ensures))
