-- A number that is 0 behind a shift by its width is below two to the width; at 32 bits every value fits.
use borrow.Author.Rules.{rules}
use mathlib.Core.Path.{sym}
use native.Mathlib.Omega.{arith}
use Prim.Native.Nat.{ℕ, ◌^◌}
use mathlib.Core.Path.{◌≡◌, ap, ◌∙◌}
use lib.Dec.{ltb}
use borrow.Author.Tests.{lt-ltb}
use Rattle.format_writing.specs.Writing.{fits_shifted}
use Rattle.format_writing.proofs.fits_in.Goals as goal

pub returns-then-width-lt32 : goal.returns-then-width-lt32
returns-then-width-lt32 c = let a = c.args in fits_shifted a.value a.width

pub returns : goal.returns
returns c =
    let a = c.args in
    let e : a.width ≡ 32 = omega arith in
    sym (ap (λ (w : ℕ). ltb a.value (2 ^ w)) e ∙ lt-ltb a.value (2 ^ 32) (search rules))
