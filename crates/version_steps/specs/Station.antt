-- The functions of `versions` are a station's: where a table of version structs says the same as the store's two slices, a delivered set
-- request does what `find` finds and else what `append` answers, and a delivered get request what `setpoint_of` reads.
use Rattle.std.specs.Prelude.{ℕ, cond, eqb, ltb}
use Rattle.tables.specs.Tables.{Tables}
use Rattle.server.specs.Held.{Appended}
use Rattle.rules.specs.Answers.{Left}
use Rattle.rules.specs.Common.{got_reply}
use Rattle.rules.specs.Request.{answered_by, answered, refused, stored_by}
use Rattle.version_records.specs.Reading.{Reading}

-- what a delivered get request makes of what was read of its key: the reply with badge and setpoint, or the refusal by its number
abbrev pub got_by : Reading → ℕ → ℕ → Tables → Left
got_by r q i t = cond (eqb r.number 0) (answered_by (got_reply r.badge r.setpoint) q i t) (refused r.number t)

-- what a delivered set request with a new key makes of the number that an append answers
abbrev pub new_by : ℕ → Appended → ℕ → ℕ → Tables → Left
new_by number a q i t = cond (eqb number 0) (answered q i 0 (stored_by a t)) (refused number t)

-- and any set request of the place where its key was found among n versions first: "A station that holds the key already acknowledges
-- without storing"
abbrev pub set_by : ℕ → ℕ → ℕ → Appended → ℕ → ℕ → Tables → Left
set_by place n number a q i t = cond (ltb place n) (answered q i 0 t) (new_by number a q i t)
