-- The delivery of a reply: "reply to nothing". What it changes and answers goes by the state of the client; 9 where the link has no reply.
use Rattle.std.specs.Prelude.{ℕ, ◌+◌, ◌-◌, cond, List, eqb}
use Rattle.keys.specs.Keys.{key_of}
use Rattle.keys.specs.Masks.{has_server}
use Rattle.coordinator.specs.Latest.{latest_tag_at}
use Rattle.tables.specs.Layout.{put_client_word, client_word, state_field, tag_field, setpoints_field, received_field, tags_field, badges_field}
use Rattle.tables.specs.Links.{targets, put_link}
use Rattle.tables.specs.Tables.{Tables, with_counts, with_clients, with_links, with_writes, with_reads, servers_of, state_of, count_of, mask_of, tag_of, record_of, content_at}
use Rattle.tables.specs.declared.links.Contents.{Contents}
use Rattle.tables.specs.declared.links.Content.{Content}
use Rattle.tables.specs.declared.links.Content.TheVariants.{Nothing, Request, Reply, Lost}
use Rattle.rules.specs.declared.Arrival.{Arrival}
use Rattle.rules.specs.declared.Arrival.TheVariants.{Wait, Next, Write, Read, Refused}
use Rattle.rules.specs.declared.Delivered.{Delivered}
use Rattle.rules.specs.Answers.{Arrived, arrived, nothing_shown}
use Rattle.rules.specs.Words.{every, kept_words, laid_words, shown_words}
use Rattle.rules.specs.Common.{idle, writing, entering, asking_keys, asking_setpoints, coordinator, request, next_step, counted, pending, ended_record, tagged_record}
use Rattle.rules.specs.Begin.{sent_gets, kept_asking}
use Rattle.rules.specs.Choice.{chosen_tag, chosen_setpoint, chosen_badge}

abbrev pub said : Arrival → Tables → Arrived
said a t = arrived (nothing_shown a) t

-- the step counts, and the client's row and links are as given
abbrev pub moved : List ℕ → List ℕ → Tables → Tables
moved clients links t = with_counts (counted t.counts) (with_clients clients (with_links links t))

-- the link of the reply holds nothing now
abbrev pub emptied : ℕ → ℕ → Tables → List ℕ
emptied q i t = put_link t.links q i Nothing

-- a READ shows the setpoints of its masked stations
abbrev pub shown_setpoints : List ℕ → ℕ → ℕ → List ℕ
shown_setpoints clients q mask = shown_words setpoints_field clients q mask

-- "A READ now shows with each setpoint the tag of the WRITE that put it there, 0 for the opening": under A and B those that the client keeps
abbrev pub shown_tags : List ℕ → ℕ → ℕ → List ℕ
shown_tags clients q mask = shown_words tags_field clients q mask

-- "A READ must show the badge … that belongs to the same WRITE as the setpoint beside it": the one that the client stores with it
abbrev pub shown_badges : List ℕ → ℕ → ℕ → List ℕ
shown_badges clients q mask = shown_words badges_field clients q mask

abbrev pub read_shown : ℕ → List ℕ → List ℕ → ℕ → ℕ → Delivered
read_shown tag tags clients q mask =
    record { arrival = Read tag; setpoints = shown_setpoints clients q mask; tags = tags; badges = shown_badges clients q mask }

-- a READ ends: its record gets tag and end, and the answer shows setpoints, tags and badges
abbrev pub ended_read : ℕ → ℕ → List ℕ → List ℕ → List ℕ → Tables → Arrived
ended_read q tag tags clients links t =
    arrived (read_shown tag tags clients q (mask_of t q))
    (with_reads (ended_record (record_of t q) (next_step t) (tagged_record (record_of t q) tag t.reads)) (moved (put_client_word clients q state_field idle) links t))

-- "When the last acknowledgement arrives, key and mask go to the head."
unfoldable pub on_set_done : ℕ → ℕ → Tables → Arrived
on_set_done q i t =
    cond (pending (emptied q i t) q)
    (said Wait (moved t.clients (emptied q i t) t))
    (said Next (moved (put_client_word t.clients q state_field entering) (put_link (emptied q i t) q coordinator (request (key_of (count_of t q) q) (mask_of t q))) t))

-- "The tag's arrival ends the WRITE."
unfoldable pub on_entered : Contents → ℕ → ℕ → Tables → Arrived
on_entered w q i t =
    said (Write w.number)
    (with_writes (ended_record (record_of t q) (next_step t) t.writes)
    (moved (put_client_word (put_client_word t.clients q tag_field w.number) q state_field idle) (emptied q i t) t))

-- "B: … its reply has the last tag and all k keys; then as A." The number is that of the log's entries when the head answered.
unfoldable pub on_keys : Contents → ℕ → ℕ → Tables → Arrived
on_keys w q i t =
    said Next
    (moved
    (kept_asking q (mask_of t q) t.log (w.number - 1) (servers_of t)
    (put_client_word (put_client_word t.clients q tag_field (w.number - 1)) q state_field asking_setpoints))
    (sent_gets q (mask_of t q) t.log (w.number - 1) (servers_of t) (emptied q i t)) t)

-- "each wanted setpoint [is] stored in the panel"; "a panel stores [the badge] with each wanted setpoint"; the last one ends the READ
abbrev pub got_value : Contents → ℕ → ℕ → Tables → List ℕ
got_value w q i t = put_client_word (put_client_word t.clients q (setpoints_field + i) w.number) q (badges_field + i) w.badge

unfoldable pub on_got : Contents → ℕ → ℕ → Tables → Arrived
on_got w q i t =
    cond (pending (emptied q i t) q)
    (said Wait (moved (got_value w q i t) (emptied q i t) t))
    (ended_read q (tag_of t q) (shown_tags (got_value w q i t) q (mask_of t q)) (got_value w q i t) (emptied q i t) t)

-- C: the n that came from each target stands in the client's row
abbrev pub received_in : List ℕ → ℕ → ℕ → ℕ
received_in clients q i = client_word clients q (received_field + i)

abbrev pub put_received : List ℕ → ℕ → ℕ → ℕ → List ℕ
put_received clients q i number = put_client_word clients q (received_field + i) number

abbrev pub got_number : Contents → ℕ → ℕ → Tables → List ℕ
got_number w q i t = put_received t.clients q i w.number

-- "when all replies are in", the tag is chosen
abbrev pub tag_from : List ℕ → List ℕ → List ℕ → ℕ → ℕ → ℕ → ℕ
tag_from clients keys log q mask k = chosen_tag keys log mask (received_in clients q) k (received_in clients q coordinator)

abbrev pub tag_chosen : List ℕ → ℕ → Tables → ℕ
tag_chosen clients q t = tag_from clients t.keys t.log q (mask_of t q) (servers_of t)

-- and setpoint and badge of each masked station at that tag are stored
abbrev pub kept_setpoints : (ℕ → ℕ) → ℕ → ℕ → ℕ → List ℕ → List ℕ
kept_setpoints setpoint q mask k clients = kept_words setpoints_field (has_server mask) setpoint q k clients

abbrev pub kept_badges : (ℕ → ℕ) → ℕ → ℕ → ℕ → List ℕ → List ℕ
kept_badges badge q mask k clients = kept_words badges_field (has_server mask) badge q k clients

-- "an end sets state 0 and n to 0"
abbrev pub forgotten : ℕ → List ℕ → List ℕ
forgotten q clients = kept_words received_field every (λ i. 0) q targets clients

-- the client's row at the end: setpoints and badges at the tag, the n forgotten, the tag
abbrev pub concluded_row : (ℕ → ℕ) → (ℕ → ℕ) → ℕ → ℕ → ℕ → ℕ → List ℕ → List ℕ
concluded_row setpoint badge tag q mask k clients =
    put_client_word (forgotten q (kept_badges badge q mask k (kept_setpoints setpoint q mask k clients))) q tag_field tag

abbrev pub setpoint_at : ℕ → List ℕ → ℕ → Tables → ℕ → ℕ
setpoint_at tag clients q t = chosen_setpoint t.keys t.values t.log (received_in clients q) tag

abbrev pub badge_at : ℕ → List ℕ → ℕ → Tables → ℕ → ℕ
badge_at tag clients q t = chosen_badge t.keys t.values t.log (received_in clients q) tag

abbrev pub concluded : ℕ → List ℕ → ℕ → Tables → List ℕ
concluded tag clients q t = concluded_row (setpoint_at tag clients q t) (badge_at tag clients q t) tag q (mask_of t q) (servers_of t) clients

-- C's are those of the tag chosen, shown and not kept
abbrev pub chosen_tags : List ℕ → ℕ → ℕ → ℕ → List ℕ
chosen_tags log mask k tag = laid_words (has_server mask) (latest_tag_at log tag) k

abbrev pub ended_by_c : ℕ → List ℕ → ℕ → List ℕ → Tables → Arrived
ended_by_c tag clients q links t = ended_read q tag (chosen_tags t.log (mask_of t q) (servers_of t) tag) (concluded tag clients q t) links t

unfoldable pub on_all : Contents → ℕ → ℕ → Tables → Arrived
on_all w q i t =
    cond (pending (emptied q i t) q)
    (said Wait (moved (got_number w q i t) (emptied q i t) t))
    (ended_by_c (tag_chosen (got_number w q i t) q t) (got_number w q i t) q (emptied q i t) t)

-- what comes behind the four is state 5: on sound tables the links of an idle client hold nothing
unfoldable pub on_reply_in : ℕ → Contents → ℕ → ℕ → Tables → Arrived
on_reply_in state w q i t =
    cond (eqb state writing) (on_set_done q i t)
    (cond (eqb state entering) (on_entered w q i t)
    (cond (eqb state asking_keys) (on_keys w q i t)
    (cond (eqb state asking_setpoints) (on_got w q i t) (on_all w q i t))))

abbrev pub on_reply : Content → ℕ → ℕ → Tables → Arrived
on_reply Nothing q i t = said (Refused 9) t
on_reply (Request w) q i t = said (Refused 9) t
on_reply (Reply w) q i t = on_reply_in (state_of t q) w q i t
on_reply Lost q i t = said (Refused 9) t

unfoldable pub reply_delivered : ℕ → ℕ → Tables → Arrived
reply_delivered q i t = on_reply (content_at t q i) q i t
