-- Each step, accepted or not: what it does to the step number and the records.
use Rattle.std.specs.Prelude.{ℕ, ◌+◌, ◌-◌, ◌<◌, ◌≡◌, true, List, set, eqb, ltb}
use Rattle.std.proofs.Math.Path.{refl}
use Rattle.std.proofs.Common.{sym, ◌∙◌, subst, arith, length-set, get_or-set_other}
use Rattle.ranges.specs.Tests.{by-test, both_left}
use Rattle.server.specs.Held.{stored, appended, first_bearing, holds}
use Rattle.coordinator.specs.Log.{enter_left, entered, first_entry, has_key}
use Rattle.tables.specs.Rows.{HasRow, word-length}
use Rattle.tables.specs.Layout.{put_entry, put_client_word, state_field, step_field, writes_field, reads_field, held_field, entries_field}
use Rattle.tables.specs.Layout.{server_places, log_places}
use Rattle.tables.specs.Layout.{record_width, begin_of_record, end_of_record, tag_of_record}
use Rattle.tables.specs.Links.{targets}
use Rattle.tables.specs.Tables.{with_writes, with_reads, servers_of}
use Rattle.tables.specs.Tables.{Tables, clients_of, step_of, entries_of, writes_of, reads_of, held_of, state_of, mask_of, tag_of, record_of}
use Rattle.tables.specs.Tables.{content_at}
use Rattle.tables.specs.declared.links.Contents.{Contents}
use Rattle.tables.specs.declared.links.Content.{Content}
use Rattle.tables.specs.declared.links.Content.TheVariants.{Nothing, Request, Reply, Lost}
use Rattle.rules.specs.Answers.{Left, Arrived}
use Rattle.rules.specs.Common.{idle, writing, entering, asking_keys, asking_setpoints, asking_all, reply, next_step, pending, ended_record}
use Rattle.rules.specs.Common.{tagged_record}
use Rattle.rules.specs.Begin.{next_count, begun_write}
use Rattle.refusals.specs.Former.{formerly_begun_read}
use Rattle.rules.specs.Request.{answered_by, got_from, holding, stored_by, entered_by, on_new_set, on_set, on_new_enter, on_enter, on_which_keys, on_get}
use Rattle.rules.specs.Request.{on_get_all}
use Rattle.rules.specs.Request.{on_request_in, on_request, request_delivered}
use Rattle.rules.specs.Reply.{shown_tags, got_value, got_number, tag_chosen, concluded, chosen_tags}
use Rattle.rules.specs.Reply.{moved, emptied, ended_read, on_set_done, on_entered, on_keys, on_got, on_all, on_reply_in, on_reply, reply_delivered}
use Rattle.rules.specs.Loss.{on_loss, link_lost, on_resend, link_resent, sent_by}
use Rattle.soundness.specs.Sound.{content_sound, uses, is_writing, is_reading}
use Rattle.soundness.specs.Facts.{Sound}
use Rattle.soundness.specs.Room.{write_open, write-row, read_open, read-row}
use Rattle.keeping.specs.Accepted.{Writable, Readable}
use Rattle.keeping.specs.Begins.{begun_other, begun_more, begun_step}
use Rattle.keeping.specs.Moves.{counted_other, counted_step}
use Rattle.keeping.specs.Records.{tagged-word}
use Rattle.keeping.specs.States.{by_state}
use Rattle.moments.specs.Sorts.{writes, reads, open-end}
use Rattle.moments.specs.Growth.{Moved, Stepped, stays, moves, grew_same, grew-begun, grew-ended}
use Rattle.moments.specs.Growth.{ended-begin, ended_other, ended_here, filled-moved}

-- Begins: a record of the kind begins now.
module _ (t : Tables) (s : Sound t) (q mask : ℕ) where
  pub write_moves : (badge : ℕ) (setpoints : List ℕ) → Writable q mask setpoints t → Moved t (begun_write q mask badge setpoints t)
  unfolding begun_write
  write_moves badge setpoints w =
      let long = s.long.counts in
      let step = begun_step writes_field t.counts long (omega arith) (λ z. omega arith) in
      let t' = begun_write q mask badge setpoints t in
      record {
        step = step;
        writes = grew-begun writes t t' q (next_count t q) badge (begun_more writes_field t.counts long (omega arith) (λ z. omega arith))
            (omega (arith, s.long.writes, w.few)) (rw step);
        reads = grew_same reads t t' (begun_other writes_field t.counts long (omega arith) (λ z. omega arith) reads_field
            (λ z. omega arith) (λ z. omega arith)) refl;
      }

  pub read-moves : Readable q mask t → Moved t (formerly_begun_read q mask t)
  unfolding formerly_begun_read
  read-moves r =
      let long = s.long.counts in
      let step = begun_step reads_field t.counts long (omega arith) (λ z. omega arith) in
      let t' = formerly_begun_read q mask t in
      record {
        step = step;
        writes = grew_same writes t t' (begun_other reads_field t.counts long (omega arith) (λ z. omega arith) writes_field
            (λ z. omega arith) (λ z. omega arith)) refl;
        reads = grew-begun reads t t' q mask 0 (begun_more reads_field t.counts long (omega arith) (λ z. omega arith))
            (omega (arith, s.long.reads, r.few)) (rw step);
      }

-- Requests, losses and resends: a link is filled.
module _ (t : Tables) (s : Sound t) (q i : ℕ) where
  abbrev Steps : Left → Type 0
  Steps x = Stepped t x.tables

  -- nothing but the link
  plain : (content : Content) → Stepped t (answered_by content q i t).tables
  plain content = moves (filled-moved t t content q i s.long.counts refl refl refl (λ n. refl) (λ n. refl) refl)

  module _ (w : Contents) where
    set-steps : Steps (on_set w q i t)
    unfolding on_set on_new_set appended
    set-steps =
        by-test (holds t.keys i w.key (held_of t i))
        (λ e. rw e (plain (reply 0)))
        (λ e. by-test (ltb (held_of t i) server_places)
        (λ d. rw (e, d) (moves (filled-moved t (stored_by (stored t.counts t.keys t.values i w.key w.badge w.number) t)
        (reply 0) q i
        (rw (length-set t.counts (held_field + i) (held_of t i + 1)) s.long.counts)
        (get_or-set_other t.counts (held_field + i) step_field (held_of t i + 1) 0 (λ z. omega arith))
        (get_or-set_other t.counts (held_field + i) writes_field (held_of t i + 1) 0 (λ z. omega arith))
        (get_or-set_other t.counts (held_field + i) reads_field (held_of t i + 1) 0 (λ z. omega arith))
        (λ n. refl) (λ n. refl) refl)))
        (λ d. rw (e, d) (stays refl)))

    -- the entry's place
    abbrev logged : Tables
    logged =
        entered_by (enter_left true (set t.counts entries_field (entries_of t + 1))
        (put_entry t.log (entries_of t) w.key w.number)) q t

    enter-steps : Steps (on_enter w q i t)
    unfolding on_enter on_new_enter entered
    enter-steps =
        by-test (has_key t.log w.key (entries_of t))
        (λ e. rw e (plain (reply (first_entry t.log w.key (entries_of t)))))
        (λ e. by-test (ltb (entries_of t) log_places)
        (λ d. rw (e, d) (moves (filled-moved t logged (reply (entries_of t)) q i
        (rw (length-set t.counts entries_field (entries_of t + 1)) s.long.counts)
        (get_or-set_other t.counts entries_field step_field (entries_of t + 1) 0 (λ z. omega arith))
        (get_or-set_other t.counts entries_field writes_field (entries_of t + 1) 0 (λ z. omega arith))
        (get_or-set_other t.counts entries_field reads_field (entries_of t + 1) 0 (λ z. omega arith))
        (λ n. tagged-word t.writes (record_of t q) (entries_of t) n begin_of_record (omega arith) (λ z. omega arith))
        (λ n. tagged-word t.writes (record_of t q) (entries_of t) n end_of_record (omega arith) (λ z. omega arith)) refl)))
        (λ d. rw (e, d) (stays refl)))

    get-steps : Steps (on_get w q i t)
    unfolding on_get
    get-steps =
        let place = first_bearing t.keys i w.key (held_of t i) in
        by-test (ltb place (held_of t i)) (λ e. rw e (plain (got_from t.values i place))) (λ e. rw e (stays refl))

    request-steps : (state : ℕ) → Steps (on_request_in state w q i t)
    unfolding on_request_in on_which_keys on_get_all
    request-steps state =
        by-test (eqb state writing) (λ e. rw e set-steps)
        (λ a. by-test (eqb state entering) (λ e. rw (a, e) enter-steps)
        (λ b. by-test (eqb state asking_keys) (λ e. rw (a, b, e) (plain (reply (entries_of t))))
        (λ c. by-test (eqb state asking_setpoints) (λ e. rw (a, b, c, e) get-steps)
        (λ e. rw (a, b, c, e) (plain (reply (holding t i)))))))

  request_by : (c : Content) → Steps (on_request c q i t)
  request_by Nothing = stays refl
  request_by (Request w) = request-steps w (state_of t q)
  request_by (Reply w) = stays refl
  request_by Lost = stays refl

  pub requested-steps : Steps (request_delivered q i t)
  unfolding request_delivered
  requested-steps = request_by (content_at t q i)

  lost_by : (c : Content) → Steps (on_loss c q i t)
  lost_by Nothing = stays refl
  lost_by (Request w) = plain Lost
  lost_by (Reply w) = plain Lost
  lost_by Lost = stays refl

  pub lost-steps : Steps (link_lost q i t)
  unfolding link_lost
  lost-steps = lost_by (content_at t q i)

  resent_by : (c : Content) → Steps (on_resend c q i t)
  resent_by Nothing = stays refl
  resent_by (Request w) = stays refl
  resent_by (Reply w) = stays refl
  resent_by Lost = plain (sent_by q i t)

  pub resent-steps : Steps (link_resent q i t)
  unfolding link_resent
  resent-steps = resent_by (content_at t q i)

-- Replies: a record may end.
module _ (t : Tables) (s : Sound t) (q i : ℕ) (client : q < clients_of t) where
  -- the step counts, and the records are as given
  module _ (clients links writes' reads' : List ℕ) where
    abbrev t' : Tables
    t' = with_reads reads' (with_writes writes' (moved clients links t))

    step_now : step_of t' ≡ step_of t + 1
    step_now = counted_step t.counts s.long.counts

    writes_now : writes_of t' ≡ writes_of t
    writes_now = counted_other t.counts writes_field (λ z. omega arith)

    reads_now : reads_of t' ≡ reads_of t
    reads_now = counted_other t.counts reads_field (λ z. omega arith)

  goes_on : (clients links : List ℕ) → Stepped t (moved clients links t)
  goes_on clients links =
      let t' = moved clients links t in
      moves (record {
        step = step_now clients links t.writes t.reads;
        writes = grew_same writes t t' (writes_now clients links t.writes t.reads) refl;
        reads = grew_same reads t t' (reads_now clients links t.writes t.reads) refl;
      })

  -- a WRITE ends
  write-ends : is_writing (state_of t q) ≡ true → (clients links : List ℕ) →
      Stepped t (with_writes (ended_record (record_of t q) (next_step t) t.writes) (moved clients links t))
  write-ends w clients links =
      let ended = ended_record (record_of t q) (next_step t) t.writes in
      let t' = with_writes ended (moved clients links t) in
      let step = step_now clients links ended t.reads in
      moves (record {
        step = step;
        writes = grew-ended writes t t' (record_of t q) (writes_now clients links ended t.reads)
            (open-end t.writes q (record_of t q) (write_open t s q client w).here)
            (ended-begin t.writes (record_of t q) (next_step t)) (ended_other t.writes (record_of t q) (next_step t))
            (ended_here t.writes (record_of t q) (next_step t) (write-row t s q client w) ∙ sym step);
        reads = grew_same reads t t' (reads_now clients links ended t.reads) refl;
      })

  -- a READ ends, with its tag
  read-ends : is_reading (state_of t q) ≡ true → (tag : ℕ) (tags clients links : List ℕ) → Stepped t
      (ended_read q tag tags clients links t).tables
  read-ends r tag tags clients links =
      let place = record_of t q in
      let tagged = tagged_record place tag t.reads in
      let ended = ended_record place (next_step t) tagged in
      let t' = (ended_read q tag tags clients links t).tables in
      let row = put_client_word clients q state_field idle in
      let step = step_now row links t.writes ended in
      let room : HasRow record_width tagged place = rw (word-length record_width t.reads place tag_of_record tag)
      (read-row t s q client r) in
      moves (record {
        step = step;
        writes = grew_same writes t t' (writes_now row links t.writes ended) refl;
        reads = grew-ended reads t t' place (reads_now row links t.writes ended)
            (open-end t.reads q place (read_open t s q client r).here)
            (λ n. ended-begin tagged place (next_step t) n ∙ tagged-word t.reads place tag n begin_of_record (omega arith)
            (λ z. omega arith))
            (λ n d. ended_other tagged place (next_step t) n d ∙ tagged-word t.reads place tag n end_of_record (omega arith)
            (λ z. omega arith))
            (ended_here tagged place (next_step t) room ∙ sym step);
      })

  abbrev Owns : Arrived → Type 0
  Owns x = Stepped t x.tables

  module _ (w : Contents) where
    done-steps : Owns (on_set_done q i t)
    unfolding on_set_done
    done-steps = by-test (pending (emptied q i t) q) (λ e. rw e (goes_on _ _)) (λ e. rw e (goes_on _ _))

    entered-steps : state_of t q ≡ entering → Owns (on_entered w q i t)
    unfolding on_entered
    entered-steps e = write-ends (rw e) _ _

    keys-steps : Owns (on_keys w q i t)
    unfolding on_keys
    keys-steps = goes_on _ _

    got-steps : state_of t q ≡ asking_setpoints → Owns (on_got w q i t)
    unfolding on_got
    got-steps state =
        let row = got_value w q i t in
        by-test (pending (emptied q i t) q)
        (λ e. rw e (goes_on row (emptied q i t)))
        (λ e. rw e (read-ends (rw state) (tag_of t q) (shown_tags row q (mask_of t q)) row (emptied q i t)))

    all-steps : state_of t q ≡ asking_all → Owns (on_all w q i t)
    unfolding on_all
    all-steps state =
        let row = got_number w q i t in
        let tag = tag_chosen row q t in
        by-test (pending (emptied q i t) q)
        (λ e. rw e (goes_on row (emptied q i t)))
        (λ e. rw e (read-ends (rw state) tag (chosen_tags t.log (mask_of t q) (servers_of t) tag) (concluded tag row q t) (emptied q i t)))

    in_state : {state : ℕ} → state_of t q ≡ state → Owns (on_reply_in state w q i t) → Owns (on_reply_in (state_of t q) w q i t)
    in_state e x = subst (λ (n : ℕ). Owns (on_reply_in n w q i t)) (sym e) x

    -- a link that is used has one of the five states
    reply-steps : uses (state_of t q) (mask_of t q) i ≡ true → Owns (on_reply_in (state_of t q) w q i t)
    unfolding on_reply_in
    reply-steps used =
        by_state (mask_of t q) i (state_of t q) used
        (λ e. in_state e done-steps)
        (λ e. in_state e (entered-steps e))
        (λ e. in_state e keys-steps)
        (λ e. in_state e (got-steps e))
        (λ e. in_state e (all-steps e))

  module _ (target : i < targets) where
    used_by : (c : Content) → content_sound c (state_of t q) q i t ≡ true → (w : Contents) → c ≡ Reply w → uses (state_of t q)
        (mask_of t q) i ≡ true
    unfolding content_sound
    used_by c e w d = both_left _ _ (subst (λ (x : Content). content_sound x (state_of t q) q i t ≡ true) d e)

    reply_by : (c : Content) → content_at t q i ≡ c → Owns (on_reply c q i t)
    reply_by Nothing e = stays refl
    reply_by (Request w) e = stays refl
    reply_by (Reply w) e = reply-steps w (used_by (content_at t q i) ((s.client q client).link i target).content w e)
    reply_by Lost e = stays refl

    pub replied-steps : Owns (reply_delivered q i t)
    unfolding reply_delivered
    replied-steps = reply_by (content_at t q i) refl
