-- A delivery, a loss and a resend leave the method, how many WRITEs and READs have begun, and every client's count as they were.
use Rattle.std.specs.Prelude.{ℕ, ◌+◌, ◌-◌, ◌≤◌, ◌<◌, ◌≡◌, refl, Bool, List, [], eqb}
use Rattle.std.proofs.Common.{sym, ◌∙◌, arith, get_or-set_other}
use Rattle.ranges.specs.Tests.{by-test}
use Rattle.keys.specs.Masks.{has_server}
use Rattle.tables.specs.Rows.{word_other}
use Rattle.tables.specs.Layout.{count_at, method_field, entries_field, writes_field, reads_field, held_field, client_width, client_word}
use Rattle.tables.specs.Layout.{put_client_word, count_field, state_field, tag_field, setpoints_field, received_field, tags_field, badges_field}
use Rattle.tables.specs.Layout.{asked_field}
use Rattle.tables.specs.Links.{targets}
use Rattle.tables.specs.Tables.{Tables, with_writes, with_reads, method_of, servers_of, writes_of, reads_of, state_of}
use Rattle.tables.specs.Tables.{count_of, mask_of, tag_of, record_of, content_at}
use Rattle.tables.specs.declared.links.Contents.{Contents}
use Rattle.tables.specs.declared.links.Content.{Content}
use Rattle.tables.specs.declared.links.Content.TheVariants.{Nothing, Request, Reply, Lost}
use Rattle.coordinator.specs.Latest.{latest_word, latest_tag_at}
use Rattle.rules.specs.Answers.{Left, Arrived}
use Rattle.rules.specs.Words.{every, kept_words}
use Rattle.rules.specs.WordsLaws.{kept_other}
use Rattle.rules.specs.Common.{idle, writing, entering, asking_keys, asking_setpoints, next_step, pending, ended_record, tagged_record}
use Rattle.rules.specs.Begin.{kept_tags, kept_asking}
use Rattle.rules.specs.Request.{request_delivered}
use Rattle.rules.specs.Reply.{moved, emptied, got_value, got_number, kept_setpoints, kept_badges, forgotten, concluded, tag_chosen}
use Rattle.rules.specs.Reply.{setpoint_at, badge_at, ended_read}
use Rattle.rules.specs.Reply.{on_set_done, on_entered, on_keys, on_got, on_all, on_reply_in, on_reply, reply_delivered}
use Rattle.rules.specs.Loss.{on_loss, link_lost, sent_by, on_resend, link_resent}
use Rattle.keeping.specs.Moves.{counted_other}
use Rattle.commutation.specs.Outcome.{Storing, nothing, version, entry, stored_counts, changed, Outcome, refuses, accepts, left_of, outcome}
use Rattle.commutation.proofs.Outcome.{outcome-played}

pub record Unmoved (t t' : Tables) : Type 0 where
  pub method : method_of t' ≡ method_of t
  pub writes : writes_of t' ≡ writes_of t
  pub reads : reads_of t' ≡ reads_of t
  pub counts : (q : ℕ) → count_of t' q ≡ count_of t q

pub unmoved-same : (t : Tables) → Unmoved t t
unmoved-same t = record { method = refl; writes = refl; reads = refl; counts = λ q. refl }

pub unmoved_then : (t t₁ t₂ : Tables) → Unmoved t t₁ → Unmoved t₁ t₂ → Unmoved t t₂
unmoved_then t t₁ t₂ a b = record {
  method = b.method ∙ a.method;
  writes = b.writes ∙ a.writes;
  reads = b.reads ∙ a.reads;
  counts = λ q. b.counts q ∙ a.counts q;
}

-- what a request stores touches none of the three numbers
stored_other : (s : Storing) (i : ℕ) (counts : List ℕ) (f : ℕ) → f < held_field → (f ≡ entries_field → ⊥) →
    count_at (stored_counts s i counts) f ≡ count_at counts f
stored_other nothing i counts f l d = refl
stored_other (version place key badge setpoint) i counts f l d =
    get_or-set_other counts (held_field + i) f (count_at counts (held_field + i) + 1) 0 (λ y. omega arith)
stored_other (entry tag key mask write) i counts f l d = get_or-set_other counts entries_field f (count_at counts entries_field + 1) 0 d

-- Requests, losses and resends: a link is filled, something may be stored, and no client's row moves.
module _ (t : Tables) (q i : ℕ) where
  abbrev pub Stays : Left → Type 0
  Stays x = Unmoved t x.tables

  pub filled : (content : Content) (s : Storing) → Unmoved t (changed content s q i t)
  filled content s =
      let counts = stored_counts s i t.counts in
      let still = stored_other s i t.counts in
      record {
        method = counted_other counts method_field (λ z. omega arith) ∙ still method_field (omega arith) (λ z. omega arith);
        writes = counted_other counts writes_field (λ z. omega arith) ∙ still writes_field (omega arith) (λ z. omega arith);
        reads = counted_other counts reads_field (λ z. omega arith) ∙ still reads_field (omega arith) (λ z. omega arith);
        counts = λ p. refl;
      }

-- Replies: words of a client's row are put, and its count is none of them.
abbrev pub count_in : List ℕ → ℕ → ℕ
count_in clients p = client_word clients p count_field

put_count : (clients : List ℕ) (q f v p : ℕ) → f < client_width → (f ≡ count_field → ⊥) →
    count_in (put_client_word clients q f v) p ≡ count_in clients p
put_count clients q f v p l d = word_other client_width clients q f v p count_field l (omega arith) (λ y. d (sym y.1))

pub kept-count : (field : ℕ) (wanted : ℕ → Bool) (word : ℕ → ℕ) (q k p : ℕ) (clients : List ℕ) → count_field < field → field + k ≤ client_width →
    count_in (kept_words field wanted word q k clients) p ≡ count_in clients p
kept-count field wanted word q k p clients l h =
    kept_other field wanted word q k h clients p count_field (omega arith) (λ y. omega (arith, y.1))

module _ (t : Tables) (few : servers_of t ≤ 16) (q i : ℕ) (target : i < targets) where
  abbrev pub StaysReply : Arrived → Type 0
  StaysReply x = Unmoved t x.tables

  -- whatever is left of links and records
  pub moved_on : (clients links writes reads : List ℕ) → ((p : ℕ) → count_in clients p ≡ count_of t p) →
      Unmoved t (with_reads reads (with_writes writes (moved clients links t)))
  moved_on clients links writes reads same = record {
    method = counted_other t.counts method_field (λ z. omega arith);
    writes = counted_other t.counts writes_field (λ z. omega arith);
    reads = counted_other t.counts reads_field (λ z. omega arith);
    counts = same;
  }

  pub state-count : (clients : List ℕ) (v p : ℕ) → count_in (put_client_word clients q state_field v) p ≡ count_in clients p
  state-count clients v p = put_count clients q state_field v p (omega arith) (λ z. omega arith)

  pub tag-count : (clients : List ℕ) (v p : ℕ) → count_in (put_client_word clients q tag_field v) p ≡ count_in clients p
  tag-count clients v p = put_count clients q tag_field v p (omega arith) (λ z. omega arith)

  abbrev pub k : ℕ
  k = servers_of t

  module _ (w : Contents) where
    pub got-count : (p : ℕ) → count_in (got_value w q i t) p ≡ count_of t p
    got-count p =
        let row = put_client_word t.clients q (setpoints_field + i) w.number in
        put_count row q (badges_field + i) w.badge p (omega arith) (λ z. omega arith)
        ∙ put_count t.clients q (setpoints_field + i) w.number p (omega arith) (λ z. omega arith)

    pub received-count : (p : ℕ) → count_in (got_number w q i t) p ≡ count_of t p
    received-count p = put_count t.clients q (received_field + i) w.number p (omega arith) (λ z. omega arith)

    pub concluded-count : (tag : ℕ) (clients : List ℕ) (p : ℕ) → count_in (concluded tag clients q t) p ≡ count_in clients p
    concluded-count tag clients p =
        let mask = mask_of t q in
        let setpoints = kept_setpoints (setpoint_at tag clients q t) q mask k clients in
        let badges = kept_badges (badge_at tag clients q t) q mask k setpoints in
        tag-count (forgotten q badges) tag p
        ∙ kept-count received_field every (λ j. 0) q targets p badges (omega arith) (omega arith)
        ∙ kept-count badges_field (has_server mask) (badge_at tag clients q t) q k p setpoints (omega arith) (omega arith)
        ∙ kept-count setpoints_field (has_server mask) (setpoint_at tag clients q t) q k p clients (omega arith) (omega arith)
