-- The delivery of a reply keeps the tie: it leaves the records, or ends the client's own, at the step's number.
use Rattle.std.specs.Prelude.{ℕ, suc, ◌+◌, ◌-◌, ◌<◌, ◌≡◌, true, false, List}
use Rattle.std.proofs.Math.Path.{refl, subst}
use Rattle.std.proofs.Common.{◌∙◌, arith, add-one, ne_eqb}
use Rattle.ranges.specs.Tests.{either, by_equal, not-both}
use Rattle.keys.specs.Keys.{key_of}
use Rattle.tables.specs.Rows.{HasRow, word_same, word_other, word-length}
use Rattle.tables.specs.Layout.{client_width, client_word, put_client_word, state_field, tag_field, record_field, setpoints_field, received_field}
use Rattle.tables.specs.Layout.{badges_field}
use Rattle.tables.specs.Layout.{entries_field, writes_field, reads_field}
use Rattle.tables.specs.Links.{put_link}
use Rattle.tables.specs.Tables.{Tables, servers_of, clients_of, step_of, entries_of, writes_of, reads_of, state_of, count_of, mask_of, tag_of, record_of, content_at}
use Rattle.tables.specs.declared.links.Contents.{Contents}
use Rattle.tables.specs.declared.links.Content.{Content}
use Rattle.tables.specs.declared.links.Content.TheVariants.{Nothing, Request, Reply, Lost}
use Rattle.rules.specs.declared.Arrival.TheVariants.{Wait, Next, Refused}
use Rattle.rules.specs.declared.Delivered.{Delivered}
use Rattle.rules.specs.Answers.{Arrived}
use Rattle.rules.specs.Common.{idle, entering, asking_keys, asking_setpoints, asking_all, coordinator, request, pending}
use Rattle.rules.specs.Common as rules
use Rattle.rules.specs.Begin.{sent_gets, kept_asking}
use Rattle.rules.specs.Reply.{said, moved, emptied, read_shown, ended_read, shown_tags, on_set_done, on_entered, on_keys, got_value, on_got}
use Rattle.rules.specs.Reply.{got_number, tag_chosen, concluded, chosen_tags, ended_by_c, on_all, on_reply_in, on_reply, reply_delivered}
use Rattle.soundness.specs.Sound.{is_writing, is_reading}
use Rattle.soundness.specs.Room.{client-row, server-fits}
use Rattle.keeping.specs.Accepted.{Deliverable, target_below}
use Rattle.keeping.specs.Frame.{Kept}
use Rattle.keeping.specs.Links.{number_on, contents_on, at-reply, reply-kind, reply-words}
use Rattle.keeping.specs.States.{by_state, entering-target, entered-tag, masked-server, uses_setpoints}
use Rattle.keeping.specs.Moves.{counted_other, counted_step}
use Rattle.keeping.specs.Came.{Came, asks, used}
use Rattle.keeping.proofs.Replies.{reply_delivered-kept}
use Rattle.claim.specs.Steps.{replied}
use Rattle.claim.specs.History.{Doing, nothing, writing, tagged, reading, History, delivered, wrote, showed, marked}
use Rattle.serial.proofs.Fair.{Standing}
use Rattle.register_order.specs.Agreement.{Activity, Agrees}
use Rattle.register_order.specs.Machines.{Follows}
use Rattle.register_order.specs.Grown.{more, GoesOn, goes_same, goes_to}
use Rattle.register_order.specs.Laws.{Counts, as-next, passed_agrees, marked_agrees, quiet-delivered, write-ends, read-ends}
use Rattle.register_order.specs.Begins.{asked-behind}
use Rattle.register_order.specs.Heads.{reply-tag}

-- a client does not write and read at once
one-kind : (state : ℕ) → is_writing state ≡ true → is_reading state ≡ true → ⊥
one-kind state w r =
    by_equal state rules.writing (λ e. not-both r (rw e))
    (λ n. by_equal state entering (λ e. not-both r (rw e)) (λ m. not-both w (rw (ne_eqb state rules.writing n, ne_eqb state entering m))))

module _ (floor : ℕ → ℕ) (t : Tables) (h : History) (numbers : List ℕ) (s : Standing floor t h) (a : Agrees t h numbers) (q i : ℕ) where
  abbrev pub AnswersReply : Arrived → Type 0
  AnswersReply x = Follows t h numbers (record { event = replied q i x.delivered; tables = x.tables })

  pub reply-refused : (n : ℕ) → AnswersReply (said (Refused n) t)
  reply-refused n = record { agrees = passed_agrees t h numbers a; step = refl }

  -- a delivery that leaves sound tables keeps the tie
  abbrev Keeps : Arrived → Type 0
  Keeps x = Kept q t x.tables → AnswersReply x

  abbrev step' : ℕ
  step' = step_of t + 1

  -- the counts of every delivered reply: one step more
  module _ (t' : Tables) (e : t'.counts ≡ rules.counted t.counts) where
    counts : Counts t t' (entries_of t) (writes_of t) (reads_of t)
    counts = record {
      entries = rw e (counted_other t.counts entries_field (λ z. omega arith));
      writes = rw e (counted_other t.counts writes_field (λ z. omega arith));
      reads = rw e (counted_other t.counts reads_field (λ z. omega arith));
      step = rw e (counted_step t.counts a.sound.long.counts);
    }

    next_step : step_of t' ≡ suc (step_of t)
    next_step = counts.step ∙ add-one (step_of t)

    -- what is told of it
    now : (h' : History) → Agrees t' h' (more numbers step') → Agrees t' (marked q i false h') (more numbers (suc (step_of t)))
    now h' b = marked_agrees t' h' (more numbers (suc (step_of t))) (as-next t h numbers a t' h' b) q i false

  module _ (came : Came q i t) where
    client : q < clients_of t
    client = came.client

    activity : Activity t numbers q (h.doing q)
    activity = a.clients q client

    row_has : HasRow client_width t.clients q
    row_has = client-row t a.sound q client

    -- the client goes on: it waits, or asks again
    module _ (clients links : List ℕ) (on : GoesOn t (moved clients links t) q) (k : Kept q t (moved clients links t)) where
      abbrev going : Tables
      going = moved clients links t

      goes : Agrees going (marked q i false (delivered (h.doing q) q h)) (more numbers (suc (step_of t)))
      goes =
          now going refl (delivered (h.doing q) q h)
          (quiet-delivered t going h numbers a q client k refl refl (counts going refl) on (h.doing q) refl)

      waits : AnswersReply (said Wait going)
      waits = record { agrees = goes; step = next_step going refl }

      asks-again : AnswersReply (said Next going)
      asks-again = record { agrees = goes; step = next_step going refl }

    -- a READ ends
    module _ (tag : ℕ) (tags clients links : List ℕ) (reads : is_reading (state_of t q) ≡ true)
        (k : Kept q t (ended_read q tag tags clients links t).tables) where
      abbrev over : Tables
      over = (ended_read q tag tags clients links t).tables

      over-idle : state_of over q ≡ idle
      over-idle =
          word_same client_width clients q state_field idle (omega (arith, word-length client_width clients q state_field idle, k.grows.lengths.clients, row_has)) (omega arith)

      abbrev shown : Delivered
      shown = read_shown tag tags clients q (mask_of t q)

      over_agrees : (d : Doing) → Activity t numbers q d → Agrees over (showed tag shown d q h) (more numbers step')
      over_agrees nothing x = absurd (not-both reads (rw x))
      over_agrees (writing mask badge setpoints begin) x = absurd (one-kind (state_of t q) x.writes reads)
      over_agrees (tagged n) x = absurd (one-kind (state_of t q) x.writes reads)
      over_agrees (reading mask begin deliveries losses) x =
          read-ends t over h numbers a q client k mask begin deliveries losses x tag shown refl refl (counts over refl) over-idle

      read-over : AnswersReply (ended_read q tag tags clients links t)
      read-over = record {
        agrees = now over refl (showed tag shown (h.doing q) q h) (over_agrees (h.doing q) activity);
        step = next_step over refl;
      }

    abbrev rest : List ℕ
    rest = emptied q i t

    -- a station acknowledged: the WRITE waits for more, or goes to the coordinator
    module _ (state : state_of t q ≡ rules.writing) where
      abbrev acknowledged : Tables
      acknowledged = moved t.clients rest t

      abbrev enter : Content
      enter = request (key_of (count_of t q) q) (mask_of t q)

      abbrev enters : Tables
      enters = moved (put_client_word t.clients q state_field entering) (put_link rest q coordinator enter) t

      enters_on : GoesOn t enters q
      enters_on =
          goes_to
          (word_other client_width t.clients q state_field entering q record_field (omega arith) (omega arith) (λ e. omega (arith, e.1)))
          rules.writing entering state (word_same client_width t.clients q state_field entering row_has (omega arith))
          (λ e. omega arith) (λ e. e) (λ e. e)

      done-answers : Kept q t (on_set_done q i t).tables → AnswersReply (on_set_done q i t)
      unfolding on_set_done
      done-answers =
          either Keeps (pending rest q) {x = said Wait acknowledged} {y = said Next enters}
          (waits t.clients rest (goes_same refl refl))
          (asks-again (put_client_word t.clients q state_field entering) (put_link rest q coordinator enter) enters_on)

    abbrev w : Contents
    w = contents_on t q i

    -- the tag arrived
    entered-answers : state_of t q ≡ entering → Kept q t (on_entered w q i t).tables → AnswersReply (on_entered w q i t)
    unfolding on_entered
    entered-answers state k =
        let t' = (on_entered w q i t).tables in
        let number = number_on t q i in
        let at = entering-target (mask_of t q) i (rw state at (used came)) in
        let there : content_at t q coordinator ≡ Reply w =
        subst (λ (j : ℕ). content_at t q j ≡ Reply w) at (at-reply t.links q i came.kind) in
        let is : h.doing q ≡ tagged number = reply-tag floor t h s q client state w there in
        let tag = entered-tag t i number (rw state at ((asks came).reply came.kind)) in
        let row = put_client_word t.clients q tag_field number in
        let idles : state_of t' q ≡ idle =
        word_same client_width row q state_field idle (rw (word-length client_width t.clients q tag_field number) row_has) (omega arith) in
        let b : Agrees t' (wrote number (tagged number) q h) (more numbers step') =
        write-ends t t' h numbers a q client k number number tag.0 (omega (arith, a.entries, tag.1)) (rw is at activity) refl refl
        (counts t' refl) idles in
        record { agrees = rw is (now t' refl (wrote number (tagged number) q h) b); step = next_step t' refl }

    keys-answers : state_of t q ≡ asking_keys → Kept q t (on_keys w q i t).tables → AnswersReply (on_keys w q i t)
    unfolding on_keys
    keys-answers state =
        let tag = w.number - 1 in
        let row = put_client_word t.clients q tag_field tag in
        let turned = put_client_word row q state_field asking_setpoints in
        let ahead = asked-behind t h numbers a q (mask_of t q) tag turned in
        let place : client_word turned q record_field ≡ record_of t q =
        word_other client_width row q state_field asking_setpoints q record_field (omega arith) (omega arith) (λ e. omega (arith, e.1))
        ∙ word_other client_width t.clients q tag_field tag q record_field (omega arith) (omega arith) (λ e. omega (arith, e.1)) in
        let next : client_word turned q state_field ≡ asking_setpoints =
        word_same client_width row q state_field asking_setpoints (rw (word-length client_width t.clients q tag_field tag) row_has)
        (omega arith) in
        asks-again (kept_asking q (mask_of t q) t.log tag (servers_of t) turned) (sent_gets q (mask_of t q) t.log tag (servers_of t) rest)
        (goes_to (ahead record_field (omega arith) ∙ place) asking_keys asking_setpoints state (ahead state_field (omega arith) ∙ next)
        (λ e. omega arith) (λ e. e) (λ e. e))

    -- a word of the row below the one that arrived
    below : (f v g : ℕ) → f < client_width → g < f → client_word (put_client_word t.clients q f v) q g ≡ client_word t.clients q g
    below f v g l m = word_other client_width t.clients q f v q g l (omega arith) (λ e. omega (arith, e.1))

    -- a setpoint and its badge stand behind them
    before : state_of t q ≡ asking_setpoints → (g : ℕ) → g < setpoints_field → client_word (got_value w q i t) q g ≡ client_word t.clients q g
    before state g m =
        let server =
        server-fits t came.sound i (masked-server t came.sound q i came.client (rw (state, uses_setpoints) at (used came))) in
        word_other client_width (put_client_word t.clients q (setpoints_field + i) w.number) q (badges_field + i) w.badge q g
        (omega (arith, server)) (omega arith) (λ e. omega (arith, e.1))
        ∙ below (setpoints_field + i) w.number g (omega (arith, server)) (omega arith)

    got-answers : state_of t q ≡ asking_setpoints → Kept q t (on_got w q i t).tables → AnswersReply (on_got w q i t)
    unfolding on_got
    got-answers state =
        let tags = shown_tags (got_value w q i t) q (mask_of t q) in
        either Keeps (pending rest q) {x = said Wait (moved (got_value w q i t) rest t)}
        {y = ended_read q (tag_of t q) tags (got_value w q i t) rest t}
        (waits (got_value w q i t) rest (goes_same (before state record_field (omega arith)) (before state state_field (omega arith))))
        (λ k. read-over (tag_of t q) tags (got_value w q i t) rest (rw state) k)

    all-answers : state_of t q ≡ asking_all → Kept q t (on_all w q i t).tables → AnswersReply (on_all w q i t)
    unfolding on_all
    all-answers state =
        let row = got_number w q i t in
        let l : received_field + i < client_width = omega (arith, came.target) in
        either Keeps (pending rest q) {x = said Wait (moved row rest t)} {y = ended_by_c (tag_chosen row q t) row q rest t}
        (waits row rest
        (goes_same (below (received_field + i) w.number record_field l (omega arith))
        (below (received_field + i) w.number state_field l (omega arith))))
        (λ k.
        let tags = chosen_tags t.log (mask_of t q) (servers_of t) (tag_chosen row q t) in
        read-over (tag_chosen row q t) tags (concluded (tag_chosen row q t) row q t) rest (rw state) k)

    in_state : Kept q t (on_reply_in (state_of t q) w q i t).tables → AnswersReply (on_reply_in (state_of t q) w q i t)
    unfolding on_reply_in
    in_state =
        by_state (mask_of t q) i (state_of t q) (used came)
        (λ e. rw e (done-answers e))
        (λ e. rw e (entered-answers e))
        (λ e. rw e (keys-answers e))
        (λ e. rw e (got-answers e))
        (λ e. rw e (all-answers e))

  by_content : Deliverable q i t → (c : Content) → content_at t q i ≡ c → Kept q t (on_reply c q i t).tables → AnswersReply (on_reply c q i t)
  by_content d Nothing e = λ k. reply-refused 9
  by_content d (Request x) e = λ k. reply-refused 9
  by_content d (Reply x) e =
      let target = target_below t a.sound i d.target in
      let kind = ((a.sound.client q d.client).link i target).kind in
      let came : Came q i t = record { sound = a.sound; client = d.client; target = target; early = d.early; kind = reply-kind t.links q i x kind e } in
      subst (λ (y : Contents). Kept q t (on_reply_in (state_of t q) y q i t).tables → AnswersReply (on_reply_in (state_of t q) y q i t)) (reply-words t.links q i x kind e) (in_state came)
  by_content d Lost e = λ k. reply-refused 9

  pub reply-answers : Deliverable q i t → AnswersReply (reply_delivered q i t)
  unfolding reply_delivered
  reply-answers d = by_content d (content_at t q i) refl (reply_delivered-kept q i t a.sound d)
