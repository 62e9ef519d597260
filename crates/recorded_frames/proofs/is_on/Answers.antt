-- The client stands in the first byte's last four bits, the target in the second's first five.
use Prim.Native.Nat.{◌+◌}
use native.Mathlib.Omega.{arith}
use lib.ListN.{get_or}
use Rattle.recordings.specs.ReadableLaws.{on-not, on_by-target}
use Rattle.recorded_frames.proofs.is_on.Goals as goal

pub returns-then-bytes-at : goal.returns-then-bytes-at
returns-then-bytes-at c =
    let a = c.args in
    on-not a.client a.target (get_or a.bytes.now a.at 0) (get_or a.bytes.now (a.at + 1) 0) c.if-bytes-at.true

pub returns : goal.returns
returns c =
    let a = c.args in
    on_by-target a.client a.target (get_or a.bytes.now a.at 0) (get_or a.bytes.now (a.at + 1) 0) c.if-bytes-at.false
    (omega (arith, c.shared_slice_known-2-1.given (a.at + 1)))
