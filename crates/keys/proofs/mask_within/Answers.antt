-- `keys::mask_within` meets its contract: a mask is below 2^k where nothing is left of it after k shifts.
use Rattle.keys.specs.MaskLaws.{shifted-mask}
use Rattle.keys.proofs.mask_within.Goals as goal

pub returns-then-mask-ne0 : goal.returns-then-mask-ne0
returns-then-mask-ne0 c = shifted-mask _ _ c.if-mask-ne0.true
