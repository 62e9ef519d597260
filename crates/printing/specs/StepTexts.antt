-- A step as a line of a schedule, and the refusal of a program that is asked for a load; how long they are at most.
use Rattle.std.specs.Prelude.{ℕ, ◌+◌, List, [], ◌∷◌, ◌++◌}
use Rattle.schedule.specs.declared.Step.{Step}
use Rattle.schedule.specs.Steps.{step_text}
use Rattle.printing.specs.Texts.{spaced}
use Rattle.printing.specs.Sizes.{marked_most, row_most}

-- a step as a line of a schedule
abbrev pub step_line : Step → List ℕ → List ℕ
step_line step setpoints = step_text (record { step = step; setpoints = setpoints }) ++ (10 ∷ [])

-- `no NUMBER`, where a program refuses all that it is asked for
abbrev pub refusal_text : ℕ → List ℕ
refusal_text number = ((110 ∷ 111 ∷ []) ++ spaced number) ++ (10 ∷ [])

-- a step's line at most three ahead of its setpoints
abbrev pub step_most : ℕ → ℕ
step_most setpoints = row_most (3 + setpoints)

-- `no`, a number and byte 10
abbrev pub refusal_most : ℕ
refusal_most = 2 + marked_most + 1
