-- Method A's opening and begins, "the rules as they stood before this request, kept as definitions for it". No function goes by them.
-- They say which runs of method A the members' promise is of: those "whose opening and accepted begins go by the rules as they stood
-- before this request … and whose other steps, refused begins too, go by these" (`serial/Former`).
use Rattle.std.specs.Prelude.{ℕ, zero, suc, ◌-◌, cond, not, ◌&&◌, List, length, eqb}
use Rattle.tables.specs.Layout.{tag_field, put_client_word}
use Rattle.tables.specs.Tables.{Tables, method_of, servers_of, entries_of, reads_of}
use Rattle.rules.specs.Answer.{Ok}
use Rattle.rules.specs.Answers.{Left, left}
use Rattle.rules.specs.Common.{asking_setpoints, started_client}
use Rattle.rules.specs.Open.{opened}
use Rattle.rules.specs.Begin.{sent_gets, kept_asking, Asking, asking, asking_by, begun_write, begun_read_with}
use Rattle.soundness.specs.Sound.{press_fits, sound}
use Rattle.refusals.specs.Refusals.{open_fault, write_fault_if, read_fault_if}
use Rattle.refusals.specs.Steps.{badge_of, open', begin_write, begin_read}

-- "the last tag"
abbrev pub last_tag : Tables → ℕ
last_tag t = entries_of t - 1

-- "A: take the last tag and its keys from panel 0's log, then ask each masked station for its key."
abbrev pub asking_by_a : ℕ → ℕ → Tables → Asking
asking_by_a q mask t =
    asking
    (kept_asking q mask t.log (last_tag t) (servers_of t)
    (put_client_word (started_client asking_setpoints mask (reads_of t) q t.clients) q tag_field (last_tag t)))
    (sent_gets q mask t.log (last_tag t) (servers_of t) t.links)

abbrev pub formerly_asking : ℕ → ℕ → ℕ → Tables → Asking
formerly_asking method q mask t = cond (eqb method 1) (asking_by_a q mask t) (asking_by method q mask t)

unfoldable pub formerly_begun_read : ℕ → ℕ → Tables → Tables
formerly_begun_read q mask t = begun_read_with q mask (formerly_asking (method_of t) q mask t) t

-- 1 for a wrong method alone: method 1 opened
unfoldable pub former_open_refusal : ℕ → ℕ → ℕ → List ℕ → Tables → ℕ
former_open_refusal method k p setpoints t = open_fault (press_fits method k p) k p setpoints t

-- 4 "method 1: panel 0 writes, another reads"
unfoldable pub former_write_refusal : ℕ → ℕ → List ℕ → Tables → ℕ
former_write_refusal q mask setpoints t =
    cond (not (sound t)) 2 (write_fault_if (eqb (method_of t) 1 && eqb q 0) q mask (length setpoints) t)

unfoldable pub former_read_refusal : ℕ → ℕ → Tables → ℕ
former_read_refusal q mask t = cond (not (sound t)) 2 (read_fault_if (eqb (method_of t) 1 && not (eqb q 0)) q mask t)

-- The former rules answer what they accept; what they refuse is answered by today's, "refused begins too, go by these".
abbrev pub unless_former : ℕ → Left → Left → Left
unless_former zero former today = former
unless_former (suc n) former today = today

unfoldable pub former_open : ℕ → ℕ → ℕ → List ℕ → Tables → Left
former_open method k p setpoints t =
    unless_former (former_open_refusal method k p setpoints t) (left Ok (opened method k p setpoints t)) (open' method k p setpoints t)

unfoldable pub former_begin_write : ℕ → ℕ → ℕ → List ℕ → Tables → Left
former_begin_write q mask badge setpoints t =
    unless_former (former_write_refusal q mask setpoints t) (left Ok (begun_write q mask (badge_of badge) setpoints t))
    (begin_write q mask badge setpoints t)

unfoldable pub former_begin_read : ℕ → ℕ → Tables → Left
former_begin_read q mask t =
    unless_former (former_read_refusal q mask t) (left Ok (formerly_begun_read q mask t)) (begin_read q mask t)
