-- What the delivery of a request does, as data: it is refused, or puts a reply on its link and stores nothing, a version or an entry. What
-- is read of the tables is read for the outcome; playing it only writes. `outcome-played` says that `rules/Request` delivers so.
use Rattle.std.specs.Prelude.{ℕ, ◌+◌, ◌≡◌, refl, cond, List, set, eqb, ltb}
use Rattle.ranges.specs.Tests.{by-test}
use Rattle.keys.specs.declared.Key.{Key}
use Rattle.keys.specs.Keys.{key_word}
use Rattle.tables.specs.Layout.{count_at, held_field, entries_field, step_field, server_places, log_places, put_version_word, put_value, put_entry}
use Rattle.tables.specs.Links.{put_link}
use Rattle.tables.specs.Tables.{Tables, tables_of, entries_of, held_of, state_of, record_of, content_at}
use Rattle.tables.specs.declared.links.Contents.{Contents}
use Rattle.tables.specs.declared.links.Content.{Content}
use Rattle.tables.specs.declared.links.Content.TheVariants.{Nothing, Request, Reply, Lost}
use Rattle.server.specs.Held.{appended, first_bearing, holds}
use Rattle.coordinator.specs.Log.{entered, first_entry, has_key}
use Rattle.rules.specs.Answer.{Answer}
use Rattle.rules.specs.Answer.{Ok, Refused}
use Rattle.rules.specs.Answers.{Left, left}
use Rattle.rules.specs.Common.{writing, entering, asking_keys, asking_setpoints, reply, tagged_record}
use Rattle.rules.specs.Request.{got_from, holding, on_set, on_new_set, on_enter, on_new_enter, on_which_keys, on_get, on_get_all, on_request_in}
use Rattle.rules.specs.Request.{on_request, request_delivered}

-- What is stored besides the reply, with the place where it goes: a version at the target, an entry of the log with the WRITE's record.
pub data Storing : Type 0 where
  nothing : Storing
  version : (place : ℕ) → Key → (badge setpoint : ℕ) → Storing
  entry : (tag : ℕ) → Key → (mask write : ℕ) → Storing

pub data Outcome : Type 0 where
  refuses : ℕ → Outcome
  accepts : Content → Storing → Outcome

-- one more of a count
abbrev pub bump : List ℕ → ℕ → List ℕ
bump counts field = set counts field (count_at counts field + 1)

-- what each table becomes
abbrev pub stored_counts : Storing → ℕ → List ℕ → List ℕ
stored_counts nothing i counts = counts
stored_counts (version place key badge setpoint) i counts = bump counts (held_field + i)
stored_counts (entry tag key mask write) i counts = bump counts entries_field

abbrev pub stored_keys : Storing → ℕ → List ℕ → List ℕ
stored_keys nothing i keys = keys
stored_keys (version place key badge setpoint) i keys = put_version_word keys i place (key_word key)
stored_keys (entry tag key mask write) i keys = keys

abbrev pub stored_values : Storing → ℕ → List ℕ → List ℕ
stored_values nothing i values = values
stored_values (version place key badge setpoint) i values = put_value values i place badge setpoint
stored_values (entry tag key mask write) i values = values

abbrev pub stored_log : Storing → List ℕ → List ℕ
stored_log nothing log = log
stored_log (version place key badge setpoint) log = log
stored_log (entry tag key mask write) log = put_entry log tag key mask

abbrev pub stored_writes : Storing → List ℕ → List ℕ
stored_writes nothing writes = writes
stored_writes (version place key badge setpoint) writes = writes
stored_writes (entry tag key mask write) writes = tagged_record write tag writes

-- the reply takes the request's place, what is stored is stored, and the step counts
abbrev pub changed : Content → Storing → ℕ → ℕ → Tables → Tables
changed content s q i t =
    tables_of (bump (stored_counts s i t.counts) step_field) t.clients (put_link t.links q i content) (stored_keys s i t.keys)
    (stored_values s i t.values) (stored_log s t.log) (stored_writes s t.writes) t.reads

-- an outcome played
abbrev pub answer_of : Outcome → Answer
answer_of (refuses n) = Refused n
answer_of (accepts content s) = Ok

abbrev pub left_of : Outcome → ℕ → ℕ → Tables → Tables
left_of (refuses n) q i t = t
left_of (accepts content s) q i t = changed content s q i t

abbrev pub played : Outcome → ℕ → ℕ → Tables → Left
played o q i t = left (answer_of o) (left_of o q i t)

-- The outcome, by the state of the client, as in `rules/Request`.
unfoldable pub of_set : Contents → ℕ → Tables → Outcome
of_set w i t =
    cond (holds t.keys i w.key (held_of t i)) (accepts (reply 0) nothing)
    (cond (ltb (held_of t i) server_places) (accepts (reply 0) (version (held_of t i) w.key w.badge w.number)) (refuses 8))

unfoldable pub of_enter : Contents → ℕ → Tables → Outcome
of_enter w q t =
    cond (has_key t.log w.key (entries_of t)) (accepts (reply (first_entry t.log w.key (entries_of t))) nothing)
    (cond (ltb (entries_of t) log_places) (accepts (reply (entries_of t)) (entry (entries_of t) w.key w.number (record_of t q)))
    (refuses 8))

unfoldable pub of_get : Contents → ℕ → Tables → Outcome
of_get w i t =
    let place = first_bearing t.keys i w.key (held_of t i) in
    cond (ltb place (held_of t i)) (accepts (got_from t.values i place) nothing) (refuses 8)

unfoldable pub outcome_in : ℕ → Contents → ℕ → ℕ → Tables → Outcome
outcome_in state w q i t =
    cond (eqb state writing) (of_set w i t)
    (cond (eqb state entering) (of_enter w q t)
    (cond (eqb state asking_keys) (accepts (reply (entries_of t)) nothing)
    (cond (eqb state asking_setpoints) (of_get w i t) (accepts (reply (holding t i)) nothing))))

abbrev pub outcome_of : Content → ℕ → ℕ → Tables → Outcome
outcome_of Nothing q i t = refuses 9
outcome_of (Request w) q i t = outcome_in (state_of t q) w q i t
outcome_of (Reply w) q i t = refuses 9
outcome_of Lost q i t = refuses 9

abbrev pub outcome : ℕ → ℕ → Tables → Outcome
outcome q i t = outcome_of (content_at t q i) q i t

-- `rules/Request` delivers so, on any tables.
module _ (q i : ℕ) (t : Tables) where
  module _ (w : Contents) where
    pub set-played : on_set w q i t ≡ played (of_set w i t) q i t
    unfolding on_set on_new_set appended of_set
    set-played =
        by-test (holds t.keys i w.key (held_of t i)) (λ e. rw e)
        (λ e. by-test (ltb (held_of t i) server_places) (λ d. rw (e, d)) (λ d. rw (e, d)))

    pub enter-played : on_enter w q i t ≡ played (of_enter w q t) q i t
    unfolding on_enter on_new_enter entered of_enter
    enter-played =
        by-test (has_key t.log w.key (entries_of t)) (λ e. rw e)
        (λ e. by-test (ltb (entries_of t) log_places) (λ d. rw (e, d)) (λ d. rw (e, d)))

    pub get-played : on_get w q i t ≡ played (of_get w i t) q i t
    unfolding on_get of_get
    get-played =
        by-test (ltb (first_bearing t.keys i w.key (held_of t i)) (held_of t i)) (λ e. rw e) (λ e. rw e)
