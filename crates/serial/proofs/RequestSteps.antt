-- The delivery of a request, on the tables.
use Prim.Native.Nat.{ℕ, ◌+◌, ◌≤◌, ◌<◌}
use mathlib.Core.Path.{◌≡◌, refl, sym, ap, ◌∙◌, subst}
use mathlib.Core.Bool.{true, cond}
use mathlib.Core.Option.{Option, none, some}
use mathlib.Core.List.{List}
use native.Mathlib.Omega.{arith}
use native.Mathlib.Numerals.{add-one}
use lib.ListN.{set, length, length-set}
use lib.Seq.{get_or-set_other}
use lib.Dec.{eqb}
use borrow.Author.Tests.{lt-ltb}
use Rattle.keys.specs.declared.Key.{Key}
use Rattle.keys.specs.Keys.{key_word, key_at_word}
use Rattle.keys.specs.Masks.{has_server}
use Rattle.tables.specs.Layout.{count_at, count_words, held_field, step_field, entries_field, server_places, log_places, put_version_word}
use Rattle.tables.specs.Layout.{put_value, put_entry, state_field, tag_field}
use Rattle.tables.specs.Links.{targets, put_link}
use Rattle.tables.specs.LinkLaws.{link-same}
use Rattle.tables.specs.Tables.{Tables, tables_of, step_of, entries_of, writes_of, reads_of, held_of, state_of, record_of, content_at, servers_of}
use Rattle.tables.specs.declared.links.Contents.{Contents}
use Rattle.tables.specs.declared.links.Content.{Content}
use Rattle.tables.specs.declared.links.Content.TheVariants.{Nothing, Request, Reply, Lost}
use Rattle.server.specs.Held.{appended, first_bearing, holds}
use Rattle.coordinator.specs.Log as log
use Rattle.rules.specs.Answers.{Left, left}
use Rattle.rules.specs.Common.{entering, asking_keys, asking_setpoints, asking_all, coordinator, got_reply, tagged_record}
use Rattle.rules.specs.Common as rules
use Rattle.rules.specs.Request.{refused, answered, on_set, on_new_set, on_enter, on_new_enter, on_which_keys, on_get, on_get_all, on_request_in}
use Rattle.rules.specs.Request.{on_request}
use Rattle.rules.specs.Request.{request_delivered}
use Rattle.rules.specs.Answer.{Ok}
use Rattle.keeping.specs.Accepted.{Deliverable, target_below}
use Rattle.soundness.specs.Room.{server-fits, keys-row, values-row, next-entry}
use Rattle.claim.specs.Steps.{requested}
use Rattle.claim.specs.History.{changed, History}
use Rattle.claim.specs.Claim.{IsReply}
use Rattle.serial.proofs.Press.{Shared, renumbered, Client, Press, press_of, state_in, mask_in, asked_in, shared_of, view, kept_at}
use Rattle.serial.proofs.Press.{carried}
use Rattle.serial.proofs.Press.{world}
use Rattle.serial.proofs.View.{link-put, link-put_other, view_is, shared_in, shared_step, shared_held, shared-entries}
use Rattle.serial.proofs.Versions.{Version, sent_of, found-place, not_held}
use Rattle.serial.proofs.Entries.{tag-found, tag-none}
use Rattle.serial.proofs.Ready.{Ready, few, in_range, has-link, row_at, link_at_lem, not-empty, at-coordinator}
use Rattle.serial.proofs.Invariant.{own, Fits, HeldOrNot, Writing, Stored, AtHead, to-enter, has-entered, Entering}
use Rattle.serial.proofs.Invariant.{AskingKeys}
use Rattle.serial.proofs.Invariant.{Getting, AskingAll, Activity, at_rest, at-writing, at-entering, at-keys, at-getting, at_all}
use Rattle.serial.proofs.Invariant.{Tied}
use Rattle.serial.proofs.Kept.{Kept, Does, passed-tied}
use Rattle.serial.proofs.Budget.{held_in, waits, due, Budget, waiting_room, entry_room}
use Rattle.serial.proofs.Spending.{further, write-link-budget, enter-link-budget, set-budget, enter-budget}
use Rattle.serial.proofs.Fair.{Standing, Fair}
use Rattle.serial.proofs.Requests.{version_more, entry_more, with_link, grown, kept_there, set-kept, set-again-kept, entry_grown}
use Rattle.serial.proofs.Requests.{enter-kept, enter-again-kept, which-keys-kept, get-kept, get-all-kept}

-- what the delivery answers and leaves is fair
abbrev pub FairRequest : (ℕ → ℕ) → History → ℕ → ℕ → ℕ → Left → Type 0
FairRequest floor h n q i x = Fair floor h n (record { event = requested q i x.answer; tables = x.tables })

module _ (floor : ℕ → ℕ) (t : Tables) (h : History) (s : Standing floor t h) (q i : ℕ) where
  pub refused_fair : (n : ℕ) → (n ≡ 8 → ⊥) → FairRequest floor h (step_of t) q i (refused n t)
  refused_fair n d = record { kept = (tt, passed-tied floor (view t) h s.tied); budget = s.budget; answers = tt; room = d; step = refl }

module _ (floor : ℕ → ℕ) (t : Tables) (h : History) (s : Standing floor t h) (q i : ℕ) (ready : Ready t q) (hi : i < targets) where
  abbrev tied : Tied floor (view t) h
  tied = s.tied

  abbrev budget : Budget (view t)
  budget = s.budget

  abbrev Okay : Left → Type 0
  Okay = FairRequest floor h (step_of t) q i

  abbrev c : Client
  c = (view t).client q

  -- the tables when a reply has taken the request's place
  abbrev replied : List ℕ → List ℕ → List ℕ → List ℕ → List ℕ → Content → Tables
  replied counts keys values log writes answer =
      tables_of (rules.counted counts) t.clients (put_link t.links q i answer) keys values log writes t.reads

  abbrev next : Shared → Shared
  next s = renumbered (step_of t + 1) s.writes s.reads s

  abbrev replied_press : Shared → Content → Press
  replied_press s answer = press_of (next s) (changed (view t).client q (with_link c i answer))

  module _ (counts keys values log writes : List ℕ) (badge n : ℕ) (long : count_words ≤ length counts)
      (step : count_at counts step_field ≡ step_of t) where
    abbrev answer : Content
    answer = got_reply badge n

    replied-view : (s : Shared) → shared_in counts keys values log ≡ s →
        view (replied counts keys values log writes answer) ≡ replied_press s answer
    replied-view s e =
        view_is t (replied counts keys values log writes answer) q
        (shared_step counts (count_at counts step_field + 1) keys values log long
        ∙ ap (λ (x : Shared). renumbered (count_at counts step_field + 1) x.writes x.reads x) e
        ∙ ap (λ (m : ℕ). renumbered (m + 1) s.writes s.reads s) step)
        refl (link-put t.links q i answer hi (has-link t q ready i hi) (record { count = omega arith; client = omega arith }))
        (λ r d. refl) (λ r d. link-put_other t.links q i answer hi r d)

    replied-reply : content_at (replied counts keys values log writes answer) q i ≡ answer
    replied-reply = link-same t.links q i answer (has-link t q ready i hi) (record { count = omega arith; client = omega arith })

    replied_fair : (s : Shared) → shared_in counts keys values log ≡ s → Kept floor h (requested q i Ok) (replied_press s answer) →
        Budget (replied_press s answer) → Okay (left Ok (replied counts keys values log writes answer))
    replied_fair s e k b = record {
      kept = subst (λ (v : Press). Kept floor h (requested q i Ok) v) (sym (replied-view s e)) k;
      budget = subst Budget (sym (replied-view s e)) b;
      answers = subst IsReply (sym replied-reply) tt;
      room = λ z. omega arith;
      step = ap (λ (v : Press). v.shared.step) (replied-view s e) ∙ add-one (step_of t);
    }

  counts_long : count_words ≤ length t.counts
  counts_long = ready.sound.long.counts

  -- a READ's request: one delivery further
  read-further : (badge n : ℕ) (state : ℕ) → state_in c ≡ state → (state ≡ rules.writing → ⊥) → (state ≡ entering → ⊥) →
      Budget (replied_press (shared_of t) (got_reply badge n))
  read-further badge n state is a b = further (view t) budget q (in_range t q ready) (with_link c i (got_reply badge n)) state is a b

  module _ (w : Contents) (lk : content_at t q i ≡ Request w) where
    link : c.link i ≡ Request w
    link = link_at_lem t q i hi ∙ lk

    -- what a delivery is, by the client's state
    delivered_is : request_delivered q i t ≡ on_request_in (state_of t q) w q i t
    unfolding request_delivered
    delivered_is = rw lk

    in_state : (state : ℕ) → state_in c ≡ state → request_delivered q i t ≡ on_request_in state w q i t
    in_state state e = delivered_is ∙ ap (λ (x : ℕ). on_request_in x w q i t) (sym (row_at t q state_field (omega arith)) ∙ e)

    -- a set request of a key that the server does not have finds room
    new-set_fair : state_in c ≡ rules.writing → (a : Does floor (view t) h q Writing) → held_in (shared_of t) i (own q c) ≡ none →
        Okay (on_new_set w q i t)
    unfolding on_new_set appended
    new-set_fair state a unheld =
        let waiting : waits (shared_of t) i q c ≡ 1 = rw (state, link, unheld) in
        let room : held_of t i < server_places = omega (arith, waiting_room (view t) budget q (in_range t q ready) i waiting, ready.sound.scalars.writes) in
        let l : i < servers_of t = (rw link at (a.links i hi)).2 in
        let keyed = keys-row t ready.sound i l in
        let valued = values-row t ready.sound i l in
        rw (lt-ltb (held_of t i) server_places room)
        (replied_fair (set t.counts (held_field + i) (held_of t i + 1)) (put_version_word t.keys i (held_of t i) (key_word w.key))
        (put_value t.values i (held_of t i) w.badge w.number) t.log t.writes 0 0
        (rw (length-set t.counts (held_field + i) (held_of t i + 1)) counts_long) (get_or-set_other t.counts (held_field + i) step_field (held_of t i + 1) 0 (λ e. omega arith))
        (version_more (shared_of t) i (key_word w.key) (carried w))
        (shared_held t.counts (held_of t i + 1) _ _ _ counts_long i (server-fits t ready.sound i l) ∙ rw (add-one (held_of t i)))
        (set-kept floor (view t) h tied (few t q ready) q (in_range t q ready) (step_of t + 1) (writes_of t)
        (reads_of t) i w link hi state a keyed valued room unheld)
        (set-budget (view t) budget q (in_range t q ready) i w link state (key_word w.key) (carried w) unheld
        (λ r m ne.
        let g = grown floor (view t) h tied (few t q ready) q (in_range t q ready) (step_of t + 1) (writes_of t)
        (reads_of t) i w link hi state a keyed valued room unheld r m ne in
        record { held = g.own; entry = g.entry })
        (kept_there floor (view t) h tied (few t q ready) q (in_range t q ready) (step_of t + 1) (writes_of t)
        (reads_of t) i w link hi state a keyed valued room unheld)))

    -- one of a key that it holds is acknowledged
    set_fair : state_in c ≡ rules.writing → Does floor (view t) h q Writing → Okay (on_set w q i t)
    unfolding on_set
    set_fair state a = by_held (held_in (shared_of t) i (own q c)) refl parts.3
      where
        parts : (w.key ≡ own q c) × (carried w ≡ sent_of a.badge a.setpoints i) × (i < servers_of t) ×
            HeldOrNot (world (view t) h) q c (sent_of a.badge a.setpoints i) i
        parts = rw link at (a.links i hi)

        by_held : (o : Option Version) → held_in (shared_of t) i (own q c) ≡ o → Fits (sent_of a.badge a.setpoints i) o →
            Okay (cond (holds t.keys i w.key (held_of t i)) (answered q i 0 t) (on_new_set w q i t))
        by_held none e f =
            rw (ap (λ (k : Key). holds t.keys i k (held_of t i)) parts.0 ∙ not_held t.keys t.values i (own q c) (held_of t i) e)
            (new-set_fair state a e)
        by_held (some v) e f =
            let there = found-place t.keys t.values i (own q c) (held_of t i) v e in
            rw (parts.0, lt-ltb _ _ there.0)
            (replied_fair t.counts t.keys t.values t.log t.writes 0 0 counts_long refl (shared_of t) refl
            (set-again-kept floor (view t) h tied (few t q ready) q (in_range t q ready) (step_of t + 1) (writes_of t)
            (reads_of t) i w link hi state a (e ∙ ap some f))
            (write-link-budget (view t) budget q (in_range t q ready) i (got_reply 0 0) state (omega arith)))

    -- an entry that the log does not have finds room
    new-enter_fair : i ≡ coordinator → state_in c ≡ entering → (a : Does floor (view t) h q Entering) →
        w.key ≡ own q c → w.number ≡ mask_in c → Does floor (view t) h q Stored → Okay (on_new_enter w q i t)
    unfolding on_new_enter log.entered
    new-enter_fair at state a key mask b =
        let there : c.link coordinator ≡ Request w = ap c.link (sym at) ∙ link in
        let waiting : due (shared_of t) q c ≡ 1 = rw (state, there, b.new) in
        let room : entries_of t < log_places = omega (arith, entry_room (view t) budget q (in_range t q ready) waiting, ready.sound.scalars.writes) in
        let logged = next-entry t ready.sound room in
        rw (lt-ltb (entries_of t) log_places room)
        (replied_fair (set t.counts entries_field (entries_of t + 1)) t.keys t.values
        (put_entry t.log (entries_of t) w.key w.number) (tagged_record (record_of t q) (entries_of t) t.writes) 0 (entries_of t)
        (rw (length-set t.counts entries_field (entries_of t + 1)) counts_long) (get_or-set_other t.counts entries_field step_field (entries_of t + 1) 0 (λ e. omega arith))
        (entry_more (shared_of t) w.key w.number)
        (shared-entries t.counts (entries_of t + 1) _ _ _ counts_long ∙ rw (add-one (entries_of t)))
        (rw at (enter-kept floor (view t) h tied (few t q ready) q (in_range t q ready) (step_of t + 1) (writes_of t)
        (reads_of t) w state a key mask b logged))
        (rw at (enter-budget (view t) budget q (in_range t q ready) w there state w.key w.number (entries_of t) b.new
        (λ r m ne.
        let g = entry_grown floor (view t) h tied (few t q ready) q (in_range t q ready) (step_of t + 1) (writes_of t)
        (reads_of t) w state a key mask b logged r m ne in
        record { held = g.own; entry = g.entry }))))

    -- one that it has is answered with its first tag
    enter_fair : i ≡ coordinator → state_in c ≡ entering → (a : Does floor (view t) h q Entering) → Okay (on_enter w q i t)
    unfolding on_enter
    enter_fair at state a = by-head parts.2
      where
        there : c.link coordinator ≡ Request w
        there = ap c.link (sym at) ∙ link

        parts : (w.key ≡ own q c) × (w.number ≡ mask_in c) × Does floor (view t) h q AtHead
        parts = rw there at a.entry

        by-head : Does floor (view t) h q AtHead → Okay (on_enter w q i t)
        by-head (to-enter b) =
            rw (ap (λ (k : Key). log.has_key t.log k (entries_of t)) parts.0 ∙ tag-none t.log (own q c) (entries_of t) b.new)
            (new-enter_fair at state a parts.0 parts.1 b)
        by-head (has-entered tag b) =
            let f = tag-found t.log (own q c) (entries_of t) tag b.there in
            rw (parts.0, f.0, f.1)
            (replied_fair t.counts t.keys t.values t.log t.writes 0 tag counts_long refl (shared_of t) refl
            (rw at (enter-again-kept floor (view t) h tied (few t q ready) q (in_range t q ready) (step_of t + 1) (writes_of t)
            (reads_of t) state a tag b))
            (rw at (enter-link-budget (view t) budget q (in_range t q ready) (got_reply 0 tag) state (omega arith))))

    -- the coordinator or a server tells how much it holds
    which_fair : i ≡ coordinator → state_in c ≡ asking_keys → Does floor (view t) h q AskingKeys → Okay (on_which_keys q i t)
    unfolding on_which_keys
    which_fair at state a =
        let there : c.link coordinator ≡ Request w = ap c.link (sym at) ∙ link in
        replied_fair t.counts t.keys t.values t.log t.writes 0 (entries_of t) counts_long refl (shared_of t) refl
        (rw at (which-keys-kept floor (view t) h tied (few t q ready) q (in_range t q ready) (step_of t + 1) (writes_of t) (reads_of t) w there state a))
        (read-further 0 (entries_of t) asking_keys state (λ e. omega arith) (λ e. omega arith))

    all_fair : state_in c ≡ asking_all → Does floor (view t) h q AskingAll → Okay (on_get_all q i t)
    unfolding on_get_all
    all_fair state a =
        replied_fair t.counts t.keys t.values t.log t.writes 0
        (cond (eqb i coordinator) (entries_of t) (held_of t i)) counts_long refl (shared_of t) refl
        (get-all-kept floor (view t) h tied (few t q ready) q (in_range t q ready) (step_of t + 1) (writes_of t) (reads_of t) i hi w link state a)
        (read-further 0 _ asking_all state (λ e. omega arith) (λ e. omega arith))

    -- a get request finds its key
    get_fair : state_in c ≡ asking_setpoints → Does floor (view t) h q Getting → Okay (on_get w q i t)
    unfolding on_get
    get_fair state a =
        let v = kept_at (world (view t) h) (c.row tag_field) i in
        let asked : (has_server (mask_in c) i ≡ true) × (w.key ≡ key_at_word (asked_in c i)) = rw link at (a.links i hi) in
        let f = found-place t.keys t.values i w.key (held_of t i) v (rw asked.1 (a.asked i asked.0)) in
        rw (
          lt-ltb (first_bearing t.keys i w.key (held_of t i)) (held_of t i) f.0,
          ap (λ (x : Version). x.setpoint) f.1,
          ap (λ (x : Version). x.badge) f.1,
        )
        (replied_fair t.counts t.keys t.values t.log t.writes v.badge v.setpoint counts_long refl (shared_of t) refl
        (get-kept floor (view t) h tied (few t q ready) q (in_range t q ready) (step_of t + 1) (writes_of t) (reads_of t) i hi w link state a)
        (read-further v.badge v.setpoint asking_setpoints state (λ e. omega arith) (λ e. omega arith)))

    in_activity : Does floor (view t) h q Activity → Okay (request_delivered q i t)
    unfolding on_request_in
    in_activity (at_rest e a) = not-empty (Request w) (omega arith) (sym link ∙ a.links i hi)
    in_activity (at-writing e a) = subst (Okay) (sym (in_state rules.writing e)) (set_fair e a)
    in_activity (at-entering e a) = subst (Okay) (sym (in_state entering e)) (enter_fair (at-coordinator c.link i hi link (omega arith) a.others) e a)
    in_activity (at-keys e a) = subst (Okay) (sym (in_state asking_keys e)) (which_fair (at-coordinator c.link i hi link (omega arith) a.others) e a)
    in_activity (at-getting e a) = subst (Okay) (sym (in_state asking_setpoints e)) (get_fair e a)
    in_activity (at_all e a) = subst (Okay) (sym (in_state asking_all e)) (all_fair e a)

  by_content : (c : Content) → content_at t q i ≡ c → Okay (on_request c q i t)
  unfolding request_delivered
  by_content Nothing e = refused_fair floor t h s q i 9 (λ z. omega arith)
  by_content (Request w) e = rw e at (in_activity w e (tied.clients q (in_range t q ready)).activity)
  by_content (Reply w) e = refused_fair floor t h s q i 9 (λ z. omega arith)
  by_content Lost e = refused_fair floor t h s q i 9 (λ z. omega arith)

  delivered_fair : Okay (request_delivered q i t)
  unfolding request_delivered
  delivered_fair = by_content (content_at t q i) refl

-- The delivery, by facts: whichever refusals stand ahead of it.
module _ (floor : ℕ → ℕ) (t : Tables) (h : History) (s : Standing floor t h) (q i : ℕ) where
  pub request_fair : Deliverable q i t → FairRequest floor h (step_of t) q i (request_delivered q i t)
  request_fair d =
      let ready : Ready t q = record { sound = s.sound; client = d.client } in
      delivered_fair floor t h s q i ready (target_below t s.sound i d.target)
