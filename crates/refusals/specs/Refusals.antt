-- "Refused": for each step the causes in the order of their numbers, 0 where none refuses. Numbers 8 and 9 are found by the delivery itself,
-- 14 by a loss and 15 by a resend, in `rules`.
use Rattle.std.specs.Prelude.{ℕ, Bool, cond, not, ◌&&◌, ◌||◌, List, length, eqb, leb, ltb}
use Rattle.keys.specs.Masks.{mask_within}
use Rattle.tables.specs.Layout.{last_step, record_places}
use Rattle.tables.specs.Tables.{Tables, method_of, servers_of, clients_of, step_of, writes_of, reads_of, state_of}
use Rattle.rules.specs.Common.{idle, coordinator}
use Rattle.soundness.specs.Sound.{long_enough, press_fits, sound}

-- 1 "method, k or p wrong; not k setpoints", 2 "opening: too short"
abbrev pub open_fault : Bool → ℕ → ℕ → List ℕ → Tables → ℕ
open_fault fits k p setpoints t = cond (not (fits && eqb (length setpoints) k)) 1 (cond (not (long_enough k p t)) 2 0)

-- "Method A retired": tables of method 1 may be there still. "An opening with method 1 returns 1"
abbrev pub is_retired : ℕ → Bool
is_retired method = eqb method 1

abbrev pub press_opens : ℕ → ℕ → ℕ → Bool
press_opens method k p = not (is_retired method) && press_fits method k p

unfoldable pub open_refusal : ℕ → ℕ → ℕ → List ℕ → Tables → ℕ
open_refusal method k p setpoints t = open_fault (press_opens method k p) k p setpoints t

-- 7 "any step but an opening at step number 2^32 − 1"
abbrev pub at_last_step : Tables → Bool
at_last_step t = leb last_step (step_of t)

-- 3 "no such panel or target", 4 barred by the method of the tables, 5 "panel not idle",
-- 6 "mask zero or beyond k; not k setpoints in a WRITE", 7 "255 WRITEs (or, for a READ, READs) begun; any step … at step number 2^32 − 1"
abbrev pub begin_fault : Bool → Bool → Bool → Bool → Bool → ℕ
begin_fault absent barred free fits spent = cond absent 3 (cond barred 4 (cond (not free) 5 (cond (not fits) 6 (cond spent 7 0))))

abbrev pub write_fault_if : Bool → ℕ → ℕ → ℕ → Tables → ℕ
write_fault_if barred q mask given t =
    begin_fault (leb (clients_of t) q) barred (eqb (state_of t q) idle) (mask_within mask (servers_of t) && eqb given (servers_of t))
    (leb record_places (writes_of t) || at_last_step t)

abbrev pub read_fault_if : Bool → ℕ → ℕ → Tables → ℕ
read_fault_if barred q mask t =
    begin_fault (leb (clients_of t) q) barred (eqb (state_of t q) idle) (mask_within mask (servers_of t))
    (leb record_places (reads_of t) || at_last_step t)

-- "Saved tables of method 1 …; nothing new begins on them": "any begin on such tables returns 4"
abbrev pub write_fault : ℕ → ℕ → ℕ → Tables → ℕ
write_fault q mask given t = write_fault_if (is_retired (method_of t)) q mask given t

abbrev pub read_fault : ℕ → ℕ → Tables → ℕ
read_fault q mask t = read_fault_if (is_retired (method_of t)) q mask t

-- "Stations 0 to k−1", "Target 16 means the head": a station's number, or the head's
abbrev pub is_target_of : ℕ → ℕ → Bool
is_target_of k i = ltb i k || eqb i coordinator

abbrev pub is_target : Tables → ℕ → Bool
is_target t i = is_target_of (servers_of t) i

-- 3, then 7: of a delivery, a loss and a resend alike
abbrev pub deliver_fault : Bool → Bool → Bool → ℕ
deliver_fault absent known last = cond (absent || not known) 3 (cond last 7 0)

abbrev pub delivery_fault : ℕ → ℕ → Tables → ℕ
delivery_fault q i t = deliver_fault (leb (clients_of t) q) (is_target t i) (at_last_step t)

-- 2 "tables not sound" stands ahead of these
unfoldable pub write_refusal : ℕ → ℕ → List ℕ → Tables → ℕ
write_refusal q mask setpoints t = cond (not (sound t)) 2 (write_fault q mask (length setpoints) t)

unfoldable pub read_refusal : ℕ → ℕ → Tables → ℕ
read_refusal q mask t = cond (not (sound t)) 2 (read_fault q mask t)

unfoldable pub delivery_refusal : ℕ → ℕ → Tables → ℕ
delivery_refusal q i t = cond (not (sound t)) 2 (delivery_fault q i t)
