-- `sound_numbers::scalars::key_counted` meets its contract: not between 1 and 255.
use mathlib.Core.Path.{ap}
use mathlib.Core.Bool.{Bool, not}
use Rattle.sound_numbers.proofs.scalars.key_counted.Goals as goal

pub returns : goal.returns
returns c = ap (λ (b : Bool). not b) c.between.ensures
