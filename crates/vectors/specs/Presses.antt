-- What the cards are played on: presses just opened, the steps that lead to a card, and logs written out.
use Rattle.std.specs.Prelude.{ℕ, ◌*◌, List, [], ◌∷◌, replicate}
use Rattle.keys.specs.Keys.{key_of, key_word, opening}
use Rattle.tables.specs.Layout.{count_words, client_width, server_places, value_width, log_places, entry_width, record_places, record_width}
use Rattle.tables.specs.Layout.{put_entry}
use Rattle.tables.specs.Links.{link_width, targets}
use Rattle.tables.specs.Tables.{Tables, tables_of}
use Rattle.refusals.specs.Steps as store
use Rattle.claim.specs.Steps.{Step, beginning-write, beginning-read, request, reply, play}

-- ---- presses with two servers

-- tables just long enough for so many clients, all zero
unfoldable pub blank : ℕ → Tables
blank clients =
    tables_of (replicate count_words 0) (replicate (client_width * clients) 0) (replicate (link_width * (targets * clients)) 0)
    (replicate (server_places * 2) 0) (replicate (value_width * (server_places * 2)) 0) (replicate (entry_width * log_places) 0)
    (replicate (record_width * record_places) 0) (replicate (record_width * record_places) 0)

-- the setpoints of the opening, and setpoints and badges of WRITEs a and b
abbrev pub opening_setpoints : List ℕ
opening_setpoints = 1200 ∷ 30 ∷ []

abbrev pub setpoints_a : List ℕ
setpoints_a = 1800 ∷ 45 ∷ []

abbrev pub badge_a : ℕ
badge_a = 7

abbrev pub setpoints_b : List ℕ
setpoints_b = 1500 ∷ 40 ∷ []

abbrev pub badge_b : ℕ
badge_b = 9

unfoldable pub opened : ℕ → ℕ → Tables
opened method clients = (store.open' method 2 clients opening_setpoints (blank clients)).tables

-- the tables that a list of steps leaves, each step on those of the step before it
unfoldable pub after : List Step → Tables → Tables
after [] t = t
after (step ∷ steps) t = after steps (play step t).tables

-- client 0 is at a WRITE
unfoldable pub busy : Tables
busy = after (beginning-write 0 3 badge_a setpoints_a ∷ []) (opened 2 2)

-- ---- the steps of the two cards of method C, up to the last reply, which ends the READ

-- "C, one WRITE to both, station 0 answered before it, station 1 and head after": client 1 reads while client 0 writes
unfoldable pub overtaken : List Step
overtaken =
    beginning-read 1 3 ∷ request 1 0 ∷ beginning-write 0 3 badge_a setpoints_a ∷ request 0 0 ∷ request 0 1 ∷ reply 0 0 ∷ reply 0 1 ∷
    request 0 16 ∷ reply 0 16 ∷ request 1 1 ∷ request 1 16 ∷ reply 1 0 ∷ reply 1 1 ∷ []

-- "C, log a then b, both to station 0, which had the opening and b only": server 0 stores b, answers client 2, and only then stores a; the log has a first
unfoldable pub swapped : List Step
swapped =
    beginning-write 0 1 badge_a setpoints_a ∷ beginning-write 1 1 badge_b setpoints_b ∷ request 1 0 ∷ beginning-read 2 1 ∷ request 2 0 ∷
    request 0 0 ∷ reply 0 0 ∷ request 0 16 ∷ reply 1 0 ∷ request 1 16 ∷ request 2 16 ∷ reply 2 0 ∷ []

-- ---- logs and versions written out

-- "Log: opening, then (1, 0) mask 1."
abbrev pub log_of_one : List ℕ
log_of_one = put_entry (put_entry (replicate 4 0) 0 opening 3) 1 (key_of 1 0) 1

-- "log a then b, both to station 0"
abbrev pub log_of_two : List ℕ
log_of_two = put_entry (put_entry (put_entry (replicate 6 0) 0 opening 3) 1 (key_of 1 0) 1) 2 (key_of 1 1) 1

-- "which had the opening and b only"
abbrev pub held_without_a : List ℕ
held_without_a = key_word opening ∷ key_word (key_of 1 1) ∷ []
