-- Of specs/PairLaws: what cites a theorem there that a changed definition can make fail.
use Rattle.std.specs.Prelude.{ℕ, ◌-◌, ◌≤◌, ◌≡◌, false, List, take, drop, get_or}
use Rattle.std.proofs.Math.ListN.{length}
use Rattle.schedule.specs.Numbers.{numbers_of}
use Rattle.schedule.specs.declared.Reading.{Reading}
use Rattle.schedule.specs.Steps.{line_most, named_by, step_of, reading_of, Names}
use Rattle.schedule.specs.StepLaws.{line_names}
use Rattle.schedule.specs.Pairs.{may_have_setpoints}
use Rattle.schedule.specs.PairLaws.{names-bare}

-- a whole line of such a byte leaves the place for setpoints as it was
pub line-pair : (line : List ℕ) (held : List ℕ) {r : Reading} → (length line ≡ 0 → ⊥) → length line ≤ line_most
    → may_have_setpoints (get_or line 0 0) ≡ false
    → r ≡ reading_of (named_by (get_or line 0 0) (numbers_of (take (length line - 1) (drop 1 line)))) → Names (step_of line) held r held
line-pair line held h k s e =
    line_names line h k (names-bare (get_or line 0 0) s (numbers_of (take (length line - 1) (drop 1 line))) held e)
