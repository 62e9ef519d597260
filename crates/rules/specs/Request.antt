-- The delivery of a request: "request to reply". What it changes goes by the state of the client; 8 where a table is full or a key is not held, 9 where the link has no request.
use Rattle.std.specs.Prelude.{ℕ, List, cond, eqb, ltb}
use Rattle.server.specs.Held.{appended, Appended, first_bearing, holds}
use Rattle.coordinator.specs.Log.{entered, Entered, first_entry, has_key}
use Rattle.tables.specs.Layout.{version_badge, version_setpoint}
use Rattle.tables.specs.Links.{put_link}
use Rattle.tables.specs.Tables.{Tables, with_counts, with_links, with_versions, with_log, with_writes, entries_of, held_of, state_of, record_of, content_at}
use Rattle.tables.specs.declared.links.Contents.{Contents}
use Rattle.tables.specs.declared.links.Content.{Content}
use Rattle.tables.specs.declared.links.Content.TheVariants.{Nothing, Request, Reply, Lost}
use Rattle.rules.specs.Answer.{Ok, Refused}
use Rattle.rules.specs.Answers.{Left, left}
use Rattle.rules.specs.Common.{writing, entering, asking_keys, asking_setpoints, coordinator, reply, got_reply, counted, tagged_record}

-- the reply takes the request's place, and the step counts
abbrev pub answered_by : Content → ℕ → ℕ → Tables → Left
answered_by content q i t = left Ok (with_counts (counted t.counts) (with_links (put_link t.links q i content) t))

abbrev pub answered : ℕ → ℕ → ℕ → Tables → Left
answered q i number t = answered_by (reply number) q i t

abbrev pub refused : ℕ → Tables → Left
refused n t = left (Refused n) t

-- "A request delivered there appends (key, setpoint)", with its badge.
abbrev pub stored_by : Appended → Tables → Tables
stored_by a t = with_counts a.counts (with_versions a.keys a.values t)

unfoldable pub on_new_set : Contents → ℕ → ℕ → Tables → Left
on_new_set w q i t =
    let a = appended t.counts t.keys t.values i w.key w.badge w.number in
    cond a.done (answered q i 0 (stored_by a t)) (refused 8 t)

-- "A station that holds the key already acknowledges without storing … also when full."
unfoldable pub on_set : Contents → ℕ → ℕ → Tables → Left
on_set w q i t = cond (holds t.keys i w.key (held_of t i)) (answered q i 0 t) (on_new_set w q i t)

-- "that delivery appends to the log, and the new place is the tag"; "A WRITE's tag is recorded when the head appends it"
abbrev pub entered_by : Entered → ℕ → Tables → Tables
entered_by e q t = with_counts e.counts (with_log e.log (with_writes (tagged_record (record_of t q) (entries_of t) t.writes) t))

unfoldable pub on_new_enter : Contents → ℕ → ℕ → Tables → Left
on_new_enter w q i t =
    let e = entered t.counts t.log w.key w.number in
    cond e.done (answered q i (entries_of t) (entered_by e q t)) (refused 8 t)

-- "a head that has it answers its first tag; … also when full"
unfoldable pub on_enter : Contents → ℕ → ℕ → Tables → Left
on_enter w q i t =
    cond (has_key t.log w.key (entries_of t)) (answered q i (first_entry t.log w.key (entries_of t)) t) (on_new_enter w q i t)

-- B: "its reply has the last tag and all k keys". The log only grows, so the number of its entries says them.
unfoldable pub on_which_keys : ℕ → ℕ → Tables → Left
on_which_keys q i t = answered q i (entries_of t) t

-- "A key is looked up as the first version that bears it." Its setpoint and its badge go back.
abbrev pub got_from : List ℕ → ℕ → ℕ → Content
got_from values i place = got_reply (version_badge values i place) (version_setpoint values i place)

unfoldable pub on_get : Contents → ℕ → ℕ → Tables → Left
on_get w q i t =
    let place = first_bearing t.keys i w.key (held_of t i) in
    cond (ltb place (held_of t i)) (answered_by (got_from t.values i place) q i t) (refused 8 t)

-- how many versions a server holds, how many entries the log has
abbrev pub holding : Tables → ℕ → ℕ
holding t i = cond (eqb i coordinator) (entries_of t) (held_of t i)

-- "C's replies hold the first n versions, or the first n log entries, of the moment of answering."
unfoldable pub on_get_all : ℕ → ℕ → Tables → Left
on_get_all q i t = answered q i (holding t i) t

-- what comes behind the four is state 5: on sound tables the links of an idle client hold nothing
unfoldable pub on_request_in : ℕ → Contents → ℕ → ℕ → Tables → Left
on_request_in state w q i t =
    cond (eqb state writing) (on_set w q i t)
    (cond (eqb state entering) (on_enter w q i t)
    (cond (eqb state asking_keys) (on_which_keys q i t)
    (cond (eqb state asking_setpoints) (on_get w q i t) (on_get_all q i t))))

abbrev pub on_request : Content → ℕ → ℕ → Tables → Left
on_request Nothing q i t = refused 9 t
on_request (Request w) q i t = on_request_in (state_of t q) w q i t
on_request (Reply w) q i t = refused 9 t
on_request Lost q i t = refused 9 t

unfoldable pub request_delivered : ℕ → ℕ → Tables → Left
request_delivered q i t = on_request (content_at t q i) q i t
