-- A byte from 48 to 57 is a digit, and no other.
use Rattle.std.proofs.Common.{◌-◌, ◌<◌, ◌≤◌, arith, le-leb, lt-ltb}
use Rattle.std.proofs.lemmas.Bool.{lt-leb}
use Rattle.schedule.specs.Numbers.{digit_of}
use Rattle.line_reading.proofs.digit_of.Goals as goal

pub returns-in-48-to-57 : goal.returns-in-48-to-57
unfolding digit_of
returns-in-48-to-57 c =
    let b = c.args.byte in
    let h : 48 ≤ b = omega arith in
    let k : b ≤ 57 = omega arith in
    let l : b - 48 < 10 = omega arith in
    rw (le-leb 48 b h, le-leb b 57 k, lt-ltb (b - 48) 10 l)

pub returns-in_default : goal.returns-in_default
unfolding digit_of
returns-in_default c = let h : c.args.byte < 48 = omega arith in rw (lt-leb 48 c.args.byte h)

pub returns-in_default-2 : goal.returns-in_default-2
unfolding digit_of
returns-in_default-2 c =
    let b = c.args.byte in
    let h : 48 ≤ b = omega arith in
    let k : 57 < b = omega arith in
    rw (le-leb 48 b h, lt-leb b 57 k)
