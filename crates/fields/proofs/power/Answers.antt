-- A 1 shifted by less than 32 bits is not cut.
use mathlib.Core.Path.{◌∙◌}
use native.Mathlib.Omega.{arith}
use lib.Pow.{pow_pos, shl_exact}
use Rattle.fields.proofs.power.Goals as goal

pub returns : goal.returns
returns c =
    let e = shl_exact {a = 1} 1 c.args.k 32 (omega arith) (omega arith) in
    (e ∙ omega arith, omega (arith, e, pow_pos c.args.k))
