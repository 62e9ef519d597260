-- The delivery of a request keeps the tie. One at target 16 gives a WRITE that has no tag its tag; any other leaves all records.
use Rattle.std.specs.Prelude.{ℕ, suc, ◌+◌, ◌<◌, ◌≡◌, true, false, List, set, ltb}
use Rattle.std.proofs.Math.Path.{refl}
use Rattle.std.proofs.Common.{ap, ◌∙◌, subst, arith, add-one, get_or-set_same, get_or-set_other, eq-eqb, ne_eqb}
use Rattle.ranges.specs.Tests.{by-test, either, not-both}
use Rattle.tables.specs.Layout.{count_at, step_field, entries_field, writes_field, reads_field, log_places, put_entry}
use Rattle.tables.specs.Links.{targets}
use Rattle.tables.specs.Tables.{Tables, clients_of, step_of, entries_of, writes_of, reads_of, held_of, state_of, mask_of, content_at}
use Rattle.tables.specs.declared.links.Contents.{Contents}
use Rattle.tables.specs.declared.links.Content.{Content}
use Rattle.tables.specs.declared.links.Content.TheVariants.{Nothing, Request, Reply, Lost}
use Rattle.server.specs.Held.{appended, first_bearing, holds}
use Rattle.server.specs.HeldLaws.{append-count}
use Rattle.coordinator.specs.Log.{entered, enter_left, first_entry}
use Rattle.rules.specs.Answers.{Left}
use Rattle.rules.specs.Common.{entering, asking_keys, asking_setpoints, asking_all, coordinator, reply}
use Rattle.rules.specs.Common as rules
use Rattle.rules.specs.Request.{answered, answered_by, got_from, holding, refused, stored_by, entered_by, on_set, on_new_set, on_enter, on_new_enter}
use Rattle.rules.specs.Request.{on_which_keys, on_get, on_get_all, on_request_in, on_request, request_delivered}
use Rattle.soundness.specs.Sound.{uses, is_writing}
use Rattle.soundness.specs.Facts.{ClientFacts}
use Rattle.soundness.specs.Room.{server-fits}
use Rattle.keeping.specs.Accepted.{Deliverable, target_below}
use Rattle.keeping.specs.Frame.{Kept}
use Rattle.keeping.specs.Links.{link-asks, request-kind}
use Rattle.keeping.specs.States.{by_state, entering-target, masked-server, uses-writing}
use Rattle.keeping.specs.Moves.{counted_other, counted_step, counted-length}
use Rattle.keeping.proofs.Requests.{request_delivered-kept}
use Rattle.claim.specs.Steps.{requested}
use Rattle.claim.specs.History.{Doing, nothing, writing, tagged, reading, History, given, at_coordinator}
use Rattle.serial.proofs.Fair.{Standing}
use Rattle.register_order.specs.Agreement.{Activity, Agrees}
use Rattle.register_order.specs.Machines.{Follows}
use Rattle.register_order.specs.Grown.{more, goes_same}
use Rattle.register_order.specs.Laws.{Counts, NoTagDue, as-next, passed_agrees, marked_agrees, write-tags}
use Rattle.register_order.specs.Placed.{placed-requested}
use Rattle.register_order.specs.Heads.{by-head}

-- a client that does not write is due no tag
no-tag-due : (t : Tables) (numbers : List ℕ) (q state : ℕ) → state_of t q ≡ state → is_writing state ≡ false → (d : Doing) →
    Activity t numbers q d → NoTagDue d
no-tag-due t numbers q state e w nothing a = tt
no-tag-due t numbers q state e w (writing mask badge setpoints begin) a = absurd (not-both a.writes (rw e w))
no-tag-due t numbers q state e w (tagged tag) a = tt
no-tag-due t numbers q state e w (reading mask begin deliveries losses) a = tt

module _ (floor : ℕ → ℕ) (t : Tables) (h : History) (numbers : List ℕ) (s : Standing floor t h) (a : Agrees t h numbers) (q i : ℕ) where
  abbrev pub AnswersRequest : Left → Type 0
  AnswersRequest x = Follows t h numbers (record { event = requested q i x.answer; tables = x.tables })

  pub request-refused : (n : ℕ) → AnswersRequest (refused n t)
  request-refused n = record { agrees = passed_agrees t h numbers a; step = refl }

  module _ (d : Deliverable q i t) (w : Contents) (asked : content_at t q i ≡ Request w) where
    client : q < clients_of t
    client = d.client

    target : i < targets
    target = target_below t a.sound i d.target

    facts : ClientFacts t q
    facts = a.sound.client q client

    used : uses (state_of t q) (mask_of t q) i ≡ true
    used =
        let link = facts.link i target in
        (link-asks t q i link).used (λ e. omega (arith, request-kind t.links q i w link.kind asked))

    -- a delivery that leaves sound tables keeps the tie
    abbrev Keeps : Left → Type 0
    Keeps x = Kept q t x.tables → AnswersRequest x

    -- the reply alone
    replies : (answer : Content) → (at_coordinator i ≡ true → NoTagDue (h.doing q)) → Keeps (answered_by answer q i t)
    replies answer due k = placed-requested t h numbers a q i client answer t refl refl refl (λ f l. refl) k due

    -- a READ has one delivery more
    read_on : (answer : Content) (state : ℕ) → state_of t q ≡ state → is_writing state ≡ false → Keeps (answered_by answer q i t)
    read_on answer state e n = replies answer (λ z. no-tag-due t numbers q state e n (h.doing q) (a.clients q client))

    -- a station stores what a WRITE sends, or has it
    module _ (e : state_of t q ≡ rules.writing) where
      apart : at_coordinator i ≡ false
      apart =
          let server = masked-server t a.sound q i client (rw (e, uses-writing) at used) in
          ne_eqb i coordinator (λ z. omega (arith, server-fits t a.sound i server))

      set_new : Keeps (on_new_set w q i t)
      unfolding on_new_set
      set_new =
          let x = appended t.counts t.keys t.values i w.key w.badge w.number in
          either Keeps x.done {x = answered q i 0 (stored_by x t)} {y = refused 8 t}
          (λ k. placed-requested t h numbers a q i client (reply 0) (stored_by x t) refl refl refl
          (λ f l. append-count t.counts t.keys t.values i w.key w.badge w.number f (λ z. omega arith)) k
          (λ z. absurd (not-both z apart)))
          (λ k. request-refused 8)

      set-answers : Keeps (on_set w q i t)
      unfolding on_set
      set-answers =
          either Keeps (holds t.keys i w.key (held_of t i)) {x = answered q i 0 t} {y = on_new_set w q i t}
          (replies (reply 0) (λ z. absurd (not-both z apart))) set_new

    keys-answers : state_of t q ≡ asking_keys → Keeps (on_which_keys q i t)
    unfolding on_which_keys
    keys-answers e = read_on (reply (entries_of t)) asking_keys e refl

    get-answers : state_of t q ≡ asking_setpoints → Keeps (on_get w q i t)
    unfolding on_get
    get-answers e =
        let place = first_bearing t.keys i w.key (held_of t i) in
        either Keeps (ltb place (held_of t i)) {x = answered_by (got_from t.values i place) q i t} {y = refused 8 t}
        (read_on (got_from t.values i place) asking_setpoints e refl)
        (λ k. request-refused 8)

    all-answers : state_of t q ≡ asking_all → Keeps (on_get_all q i t)
    unfolding on_get_all
    all-answers e = read_on (reply (holding t i)) asking_all e refl

    -- the coordinator appends the WRITE, and its place is the tag
    abbrev longer : List ℕ
    longer = set t.counts entries_field (entries_of t + 1)

    abbrev logged : Left
    logged = answered q i (entries_of t) (entered_by (enter_left true longer (put_entry t.log (entries_of t) w.key w.number)) q t)

    log_counts : Kept q t logged.tables → Counts t logged.tables (entries_of t + 1) (writes_of t) (reads_of t)
    log_counts k =
        let same : (f : ℕ) → (f ≡ entries_field → ⊥) → count_at longer f ≡ count_at t.counts f =
        λ f z. get_or-set_other t.counts entries_field f (entries_of t + 1) 0 z in
        let long = a.sound.long.counts in
        record {
          entries = counted_other longer entries_field (λ z. omega arith)
              ∙ get_or-set_same t.counts entries_field (entries_of t + 1) 0 (omega arith);
          writes = counted_other longer writes_field (λ z. omega arith) ∙ same writes_field (λ z. omega arith);
          reads = counted_other longer reads_field (λ z. omega arith) ∙ same reads_field (λ z. omega arith);
          step = counted_step longer (omega (arith, counted-length longer, k.grows.lengths.counts))
              ∙ ap (λ (n : ℕ). n + 1) (same step_field (λ z. omega arith));
        }

    module _ (e : state_of t q ≡ entering) where
      at : i ≡ coordinator
      at = entering-target (mask_of t q) i (rw e at used)

      module _ (mask badge : ℕ) (setpoints : List ℕ) (begin : ℕ) (is : h.doing q ≡ writing mask badge setpoints begin) where
        log-answers : Kept q t logged.tables → AnswersRequest logged
        log-answers k =
            let t' = logged.tables in
            let c = log_counts k in
            let given' = given q mask badge setpoints begin h in
            let tags : Agrees t' given' (more numbers (step_of t + 1)) =
            write-tags t t' h numbers a q client k mask badge setpoints begin (rw is at (a.clients q client)) refl refl c
            (goes_same refl refl) in
            record {
              agrees = rw (eq-eqb i coordinator at, is)
                  (marked_agrees t' given' (more numbers (suc (step_of t))) (as-next t h numbers a t' given' tags) q i true);
              step = c.step ∙ add-one (step_of t);
            }

        enter-new : Keeps (on_new_enter w q i t)
        unfolding on_new_enter entered
        enter-new = by-test (ltb (entries_of t) log_places) (λ b. rw b log-answers) (λ b. rw b (λ k. request-refused 8))

      -- "a head that has it answers its first tag"
      enter-answers : Keeps (on_enter w q i t)
      unfolding on_enter
      enter-answers =
          by-head floor t h s q client e w
          (λ mask badge setpoints begin is b. rw b (enter-new mask badge setpoints begin is))
          (λ tag is b. rw b (replies (reply (first_entry t.log w.key (entries_of t))) (λ z. rw is tt)))
          (subst (λ (j : ℕ). content_at t q j ≡ Request w) at asked)

    in_state : Keeps (on_request_in (state_of t q) w q i t)
    unfolding on_request_in
    in_state =
        by_state (mask_of t q) i (state_of t q) used
        (λ e. rw e (set-answers e))
        (λ e. rw e (enter-answers e))
        (λ e. rw e (keys-answers e))
        (λ e. rw e (get-answers e))
        (λ e. rw e (all-answers e))

  by_content : Deliverable q i t → (c : Content) → content_at t q i ≡ c → Kept q t (on_request c q i t).tables → AnswersRequest (on_request c q i t)
  by_content d Nothing e k = request-refused 9
  by_content d (Request w) e k = in_state d w e k
  by_content d (Reply w) e k = request-refused 9
  by_content d Lost e k = request-refused 9

  pub request-answers : Deliverable q i t → AnswersRequest (request_delivered q i t)
  unfolding request_delivered
  request-answers d = by_content d (content_at t q i) refl (request_delivered-kept q i t a.sound d)
