-- Of specs/Unmoved: what cites a theorem there that a changed definition can make fail.
use Rattle.std.specs.Prelude.{ℕ, ◌+◌, ◌-◌, ◌≤◌, ◌<◌, ◌≡◌, refl, Bool, List, [], eqb}
use Rattle.std.proofs.Common.{sym, ◌∙◌, arith, get_or-set_other}
use Rattle.ranges.specs.Tests.{by-test}
use Rattle.keys.specs.Masks.{has_server}
use Rattle.tables.specs.Rows.{word_other}
use Rattle.tables.specs.Layout.{count_at, method_field, entries_field, writes_field, reads_field, held_field, client_width, client_word}
use Rattle.tables.specs.Layout.{put_client_word, count_field, state_field, tag_field, setpoints_field, received_field, tags_field, badges_field}
use Rattle.tables.specs.Layout.{asked_field}
use Rattle.tables.specs.Links.{targets}
use Rattle.tables.specs.Tables.{Tables, with_writes, with_reads, method_of, servers_of, writes_of, reads_of, state_of}
use Rattle.tables.specs.Tables.{count_of, mask_of, tag_of, record_of, content_at}
use Rattle.tables.specs.declared.links.Contents.{Contents}
use Rattle.tables.specs.declared.links.Content.{Content}
use Rattle.tables.specs.declared.links.Content.TheVariants.{Nothing, Request, Reply, Lost}
use Rattle.coordinator.specs.Latest.{latest_word, latest_tag_at}
use Rattle.rules.specs.Answers.{Left, Arrived}
use Rattle.rules.specs.Words.{every, kept_words}
use Rattle.rules.specs.WordsLaws.{kept_other}
use Rattle.rules.specs.Common.{idle, writing, entering, asking_keys, asking_setpoints, next_step, pending, ended_record, tagged_record}
use Rattle.rules.specs.Begin.{kept_tags, kept_asking}
use Rattle.rules.specs.Request.{request_delivered}
use Rattle.rules.specs.Reply.{moved, emptied, got_value, got_number, kept_setpoints, kept_badges, forgotten, concluded, tag_chosen}
use Rattle.rules.specs.Reply.{setpoint_at, badge_at, ended_read}
use Rattle.rules.specs.Reply.{on_set_done, on_entered, on_keys, on_got, on_all, on_reply_in, on_reply, reply_delivered}
use Rattle.rules.specs.Loss.{on_loss, link_lost, sent_by, on_resend, link_resent}
use Rattle.keeping.specs.Moves.{counted_other}
use Rattle.commutation.specs.Outcome.{Storing, nothing, version, entry, stored_counts, changed, Outcome, refuses, accepts, left_of, outcome}
use Rattle.commutation.proofs.Outcome.{outcome-played}
use Rattle.retirement.specs.Unmoved.{Stays, StaysReply, Unmoved, concluded-count, count_in, filled, got-count, k, kept-count, moved_on, received-count, state-count, tag-count, unmoved-same}

-- Requests, losses and resends: a link is filled, something may be stored, and no client's row moves.
module _ (t : Tables) (q i : ℕ) where
  by-outcome : (o : Outcome) → Unmoved t (left_of o q i t)
  by-outcome (refuses n) = unmoved-same t
  by-outcome (accepts content s) = filled t q i content s

  pub requested-stays : Stays t q i (request_delivered q i t)
  requested-stays = rw (outcome-played q i t) (by-outcome (outcome q i t))

  lost_by : (c : Content) → Stays t q i (on_loss c q i t)
  lost_by Nothing = unmoved-same t
  lost_by (Request w) = filled t q i Lost nothing
  lost_by (Reply w) = filled t q i Lost nothing
  lost_by Lost = unmoved-same t

  pub lost-stays : Stays t q i (link_lost q i t)
  unfolding link_lost
  lost-stays = lost_by (content_at t q i)

  resent_by : (c : Content) → Stays t q i (on_resend c q i t)
  resent_by Nothing = unmoved-same t
  resent_by (Request w) = unmoved-same t
  resent_by (Reply w) = unmoved-same t
  resent_by Lost = filled t q i (sent_by q i t) nothing

  pub resent-stays : Stays t q i (link_resent q i t)
  unfolding link_resent
  resent-stays = resent_by (content_at t q i)

module _ (t : Tables) (few : servers_of t ≤ 16) (q i : ℕ) (target : i < targets) where
  -- a client that goes on
  goes_on : (clients links : List ℕ) → ((p : ℕ) → count_in clients p ≡ count_of t p) → Unmoved t (moved clients links t)
  goes_on clients links same = moved_on t few q i target clients links t.writes t.reads same

  -- a READ ends; what it shows is in no table
  read-ends : (tag : ℕ) (clients links : List ℕ) → ((p : ℕ) → count_in clients p ≡ count_of t p) →
      (StaysReply t few q i target) (ended_read q tag [] clients links t)
  read-ends tag clients links same =
      (moved_on t few q i target) (put_client_word clients q state_field idle) links t.writes
      (ended_record (record_of t q) (next_step t) (tagged_record (record_of t q) tag t.reads))
      (λ p. state-count t few q i target clients idle p ∙ same p)

  module _ (w : Contents) where
    done-stays : StaysReply t few q i target (on_set_done q i t)
    unfolding on_set_done
    done-stays =
        by-test (pending (emptied q i t) q)
        (λ e. rw e (goes_on t.clients (emptied q i t) (λ p. refl)))
        (λ e. rw e (goes_on (put_client_word t.clients q state_field entering) _ (state-count t few q i target t.clients entering)))

    entered-stays : StaysReply t few q i target (on_entered w q i t)
    unfolding on_entered
    entered-stays =
        let tagged = put_client_word t.clients q tag_field w.number in
        (moved_on t few q i target) (put_client_word tagged q state_field idle) (emptied q i t) (ended_record (record_of t q) (next_step t) t.writes) t.reads
        (λ p. state-count t few q i target tagged idle p ∙ tag-count t few q i target t.clients w.number p)

    keys-stays : StaysReply t few q i target (on_keys w q i t)
    unfolding on_keys
    keys-stays =
        let tag = w.number - 1 in
        let tagged = put_client_word t.clients q tag_field tag in
        let asks = put_client_word tagged q state_field asking_setpoints in
        let kept = kept_tags q (mask_of t q) t.log tag (k t few q i target) asks in
        goes_on (kept_asking q (mask_of t q) t.log tag (k t few q i target) asks) _
        (λ p. kept-count asked_field (has_server (mask_of t q)) (latest_word t.log tag) q (k t few q i target) p kept (omega arith) (omega arith)
        ∙ kept-count tags_field (has_server (mask_of t q)) (latest_tag_at t.log tag) q (k t few q i target) p asks (omega arith) (omega arith)
        ∙ state-count t few q i target tagged asking_setpoints p ∙ tag-count t few q i target t.clients tag p)

    got-stays : StaysReply t few q i target (on_got w q i t)
    unfolding on_got
    got-stays =
        by-test (pending (emptied q i t) q)
        (λ e. rw e (goes_on (got_value w q i t) (emptied q i t) (got-count t few q i target w)))
        (λ e. rw e (read-ends (tag_of t q) (got_value w q i t) (emptied q i t) (got-count t few q i target w)))

    all-stays : StaysReply t few q i target (on_all w q i t)
    unfolding on_all
    all-stays =
        let row = got_number w q i t in
        let tag = tag_chosen row q t in
        by-test (pending (emptied q i t) q)
        (λ e. rw e (goes_on row (emptied q i t) (received-count t few q i target w)))
        (λ e. rw e (read-ends tag (concluded tag row q t) (emptied q i t) (λ p. concluded-count t few q i target w tag row p ∙ received-count t few q i target w p)))

    reply_in : (state : ℕ) → StaysReply t few q i target (on_reply_in state w q i t)
    unfolding on_reply_in
    reply_in state =
        by-test (eqb state writing) (λ e. rw e done-stays)
        (λ a. by-test (eqb state entering) (λ e. rw (a, e) entered-stays)
        (λ b. by-test (eqb state asking_keys) (λ e. rw (a, b, e) keys-stays)
        (λ c. by-test (eqb state asking_setpoints) (λ e. rw (a, b, c, e) got-stays)
        (λ e. rw (a, b, c, e) all-stays))))

  reply_by : (c : Content) → StaysReply t few q i target (on_reply c q i t)
  reply_by Nothing = unmoved-same t
  reply_by (Request w) = unmoved-same t
  reply_by (Reply w) = reply_in w (state_of t q)
  reply_by Lost = unmoved-same t

  pub replied-stays : StaysReply t few q i target (reply_delivered q i t)
  unfolding reply_delivered
  replied-stays = reply_by (content_at t q i)
