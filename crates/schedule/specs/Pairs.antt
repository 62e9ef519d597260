-- How a line of two numbers is read without a place for its numbers: which lines may be others, and the step by what stands behind the
-- first number. Nothing here is to believe: the laws tie it to `Steps`.
use Rattle.std.specs.Prelude.{ℕ, Bool, true, cond, ◌∷◌, eqb}
use Rattle.schedule.specs.Numbers.{Read}
use Rattle.schedule.specs.Steps.{Named, unreadable, named_pair}

-- whether a line that begins with a byte may have setpoints: O and W are 79 and 87
unfoldable pub may_have_setpoints : ℕ → Bool
may_have_setpoints byte = cond (eqb byte 79) true (eqb byte 87)

-- the step of a first byte, a first number, and what is read behind that
abbrev pub pair_behind : ℕ → ℕ → Read → Named
pair_behind byte first read = cond read.whole (named_pair byte (first ∷ read.numbers)) unreadable
