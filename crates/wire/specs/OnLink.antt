-- The message that a link holds, as it crosses the wire: by the state of the client and what stands on the link. "Each link … holds nothing, a request or a reply with its contents."
use Rattle.std.specs.Prelude.{ℕ, ◌-◌, cond, List, [], eqb}
use Rattle.tables.specs.Rows.{word_at}
use Rattle.tables.specs.Layout.{entry_width, entry_mask, version_word, version_badge, version_setpoint}
use Rattle.tables.specs.Tables.{Tables, servers_of, state_of, content_at}
use Rattle.tables.specs.declared.links.Contents.{Contents}
use Rattle.tables.specs.declared.links.Content.{Content}
use Rattle.tables.specs.declared.links.Content.TheVariants.{Nothing, Request, Reply, Lost}
use Rattle.coordinator.specs.Latest.{latest_word, latest_tag_at}
use Rattle.rules.specs.Common.{writing, entering, asking_keys, asking_setpoints, coordinator}
use Rattle.frames.specs.declared.Message.{Message}
use Rattle.frames.specs.declared.Message.TheVariants.{Set, SetDone, Enter, Entered, WhichKeys, Keys, Get, Got, GetAll, All, GetLog, Log}
use Rattle.ranges.specs.Laid.{built}

-- what crosses on a link: nothing, also where it is lost, or a message with the keys of its entries, as words, their badges, none where
-- the kind has none, and their
-- tags, setpoints or masks
pub data OnLink : Type 0 where
  empty : OnLink
  carries : Message → List ℕ → List ℕ → List ℕ → OnLink

-- a message with no entries
abbrev pub alone : Message → OnLink
alone m = carries m [] [] []

-- A request, by the state that sent it. State 1: set, with the badge that "every WRITE carries"; 2: enter; 3: which keys; 4: get; 5: "C:
-- ask all masked stations and the head together".
unfoldable pub request_in : ℕ → Contents → ℕ → ℕ → Message
request_in state w q i =
    cond (eqb state writing) (Set q i w.key w.badge w.number)
    (cond (eqb state entering) (Enter q w.key w.number)
    (cond (eqb state asking_keys) (WhichKeys q)
    (cond (eqb state asking_setpoints) (Get q i w.key)
    (cond (eqb i coordinator) (GetLog q) (GetAll q i)))))

-- B: "its reply has the last tag and all k keys", and "an 8-bit tag after each key", which is the tag of the entry that the key comes from.
-- The reply holds the number n of log entries at the moment of answering, so the last tag was n - 1.
abbrev pub keys_reply : ℕ → ℕ → ℕ → List ℕ → OnLink
keys_reply n q k log = carries (Keys q (n - 1) k) (built (latest_word log (n - 1)) k) [] (built (latest_tag_at log (n - 1)) k)

-- "C's replies hold the first n versions, or the first n log entries, of the moment of answering." A version has its badge: "Version
-- records hold it after the key, as do frame kinds 1 and 10".
abbrev pub all_reply : ℕ → ℕ → ℕ → List ℕ → List ℕ → OnLink
all_reply n q i keys values =
    carries (All q i n) (built (version_word keys i) n) (built (version_badge values i) n) (built (version_setpoint values i) n)

abbrev pub log_reply : ℕ → ℕ → List ℕ → OnLink
log_reply n q log = carries (Log q n) (built (λ tag. word_at entry_width log tag 0) n) [] (built (entry_mask log) n)

abbrev pub everything_reply : ℕ → ℕ → ℕ → List ℕ → List ℕ → List ℕ → OnLink
everything_reply n q i keys values log = cond (eqb i coordinator) (log_reply n q log) (all_reply n q i keys values)

-- A reply, by the state that gets it back. State 1: set done; 2: entered, with the tag; 3: keys; 4: got, which "has [the badge] before the
-- setpoint"; 5: all or log.
unfoldable pub reply_in : ℕ → Contents → ℕ → ℕ → Tables → OnLink
reply_in state w q i t =
    cond (eqb state writing) (alone (SetDone q i))
    (cond (eqb state entering) (alone (Entered q w.number))
    (cond (eqb state asking_keys) (keys_reply w.number q (servers_of t) t.log)
    (cond (eqb state asking_setpoints) (alone (Got q i w.badge w.number))
    (everything_reply w.number q i t.keys t.values t.log))))

abbrev pub on_link_by : Content → ℕ → ℕ → Tables → OnLink
on_link_by Nothing q i t = empty
on_link_by (Request w) q i t = alone (request_in (state_of t q) w q i)
on_link_by (Reply w) q i t = reply_in (state_of t q) w q i t
on_link_by Lost q i t = empty

-- what the link of client q and target i holds
unfoldable pub on_link : ℕ → ℕ → Tables → OnLink
on_link q i t = on_link_by (content_at t q i) q i t
