-- The delivery of a reply, on the tables.
use Prim.Native.Nat.{ℕ, suc, ◌+◌, ◌-◌, ◌≤◌, ◌<◌}
use mathlib.Core.Path.{◌≡◌, refl, sym, ap, ap₂, ◌∙◌, subst}
use mathlib.Core.Bool.{Bool, true, false}
use mathlib.Core.List.{List}
use native.Mathlib.Omega.{arith}
use native.Mathlib.Numerals.{add-one}
use lib.ListN.{get_or}
use Rattle.ranges.specs.Tests.{by_equal, by-test}
use Rattle.keys.specs.Keys.{key_of, FitsByte}
use Rattle.keys.specs.KeyLaws.{at-word-fits}
use Rattle.keys.specs.Masks.{has_server}
use Rattle.coordinator.specs.Latest.{latest_key, latest_word, latest_tag_at}
use Rattle.tables.specs.Rows.{HasRow, word_same, word_other, word-length}
use Rattle.tables.specs.Layout.{client_width, client_word, put_client_word, state_field, count_field, mask_field, tag_field, setpoints_field}
use Rattle.tables.specs.Layout.{received_field, tags_field, badges_field, asked_field}
use Rattle.tables.specs.Links.{targets, HasLinks, link_at, put_link}
use Rattle.tables.specs.LinkLaws.{link-length}
use Rattle.tables.specs.Tables.{Tables, tables_of, servers_of, step_of, writes_of, reads_of, state_of, count_of, mask_of, record_of, content_at}
use Rattle.tables.specs.declared.links.Contents.{Contents}
use Rattle.tables.specs.declared.links.Content.{Content}
use Rattle.tables.specs.declared.links.Content.TheVariants.{Nothing, Request, Reply, Lost}
use Rattle.rules.specs.Answers.{Arrived, arrived, nothing_shown}
use Rattle.rules.specs.Words.{every, shown_words}
use Rattle.rules.specs.WordsLaws.{kept_other, kept-length, kept_there, laid_at, shown_at}
use Rattle.rules.specs.Common.{idle, entering, asking_keys, asking_setpoints, asking_all, coordinator, request, counted, next_step, pending, ended_record, tagged_record}
use Rattle.rules.specs.Common as rules
use Rattle.rules.specs.Begin.{sent_gets, kept_tags, kept_keys}
use Rattle.rules.specs.Reply.{said, emptied, shown_setpoints, shown_tags, shown_badges, read_shown, on_set_done, on_entered, on_keys, got_value}
use Rattle.rules.specs.Reply.{on_got}
use Rattle.rules.specs.Reply.{kept_badges, badge_at}
use Rattle.rules.specs.Reply.{got_number}
use Rattle.rules.specs.Reply.{received_in, setpoint_at, kept_setpoints, forgotten, tag_chosen, concluded, chosen_tags, on_all}
use Rattle.rules.specs.Reply.{on_reply_in, on_reply, reply_delivered}
use Rattle.rules.specs.declared.Delivered.{Delivered}
use Rattle.rules.specs.declared.Arrival.TheVariants as arrival
use Rattle.keeping.specs.Accepted.{Deliverable, target_below}
use Rattle.claim.specs.Steps.{replied}
use Rattle.claim.specs.History.{changed, History}
use Rattle.claim.specs.Consequences.{number_of_arrival, counted_arrival}
use Rattle.serial.proofs.Places.{changed-same, changed_other}
use Rattle.keeping.specs.Links.{link-asks, reply-kind}
use Rattle.keeping.specs.States.{masked-server, uses_setpoints}
use Rattle.serial.proofs.Press.{within, renumbered, Client, client_of, Press, press_of, state_in, count_in, mask_in, tag_in, row_of}
use Rattle.serial.proofs.Press.{links_of, shared_of, view, to_come, sends}
use Rattle.serial.proofs.View.{within_at, row_put, row-put_other, link-put, link-put_other, view_is, shared_step}
use Rattle.serial.proofs.Budget.{Budget}
use Rattle.serial.proofs.Spending.{further, write-link-budget, last-budget}
use Rattle.serial.proofs.Fair.{Standing, Fair}
use Rattle.serial.proofs.Loops.{sent-links, sent_others, kept_rows, kept-ahead, kept_word, pending_come, none_come}
use Rattle.serial.proofs.Ready.{Ready, few, in_range, has-row, has-link, has-links, row_at, link_at_lem, not-empty, at-coordinator}
use Rattle.serial.proofs.Invariant.{Writing, Entering, AskingKeys, Getting, AskingAll, Activity, at_rest, at-writing, at-entering, at-keys, at-getting, at_all, Tied}
use Rattle.serial.proofs.Kept.{Kept, Does, passed-tied}
use Rattle.serial.proofs.Replies.{done-wait-kept, done-next-kept, got-wait-kept, got-end-kept, told-wait-kept, told-end-kept, entered-kept, keys_kept}

-- what the delivery answers and leaves is fair
abbrev pub FairReply : (ℕ → ℕ) → History → ℕ → ℕ → ℕ → Arrived → Type 0
FairReply floor h n q i x = Fair floor h n (record { event = replied q i x.delivered; tables = x.tables })

module _ (floor : ℕ → ℕ) (t : Tables) (h : History) (s : Standing floor t h) (q i : ℕ) where
  pub refused-reply : (n : ℕ) → (n ≡ 8 → ⊥) → FairReply floor h (step_of t) q i (said (arrival.Refused n) t)
  refused-reply n d =
      record { kept = (tt, passed-tied floor (view t) h s.tied); budget = s.budget; answers = tt; room = d; step = refl }

module _ (floor : ℕ → ℕ) (t : Tables) (h : History) (s : Standing floor t h) (q i : ℕ) (ready : Ready t q) (hi : i < targets) where
  abbrev tied : Tied floor (view t) h
  tied = s.tied

  abbrev budget : Budget (view t)
  budget = s.budget

  abbrev Okay : Arrived → Type 0
  Okay = FairReply floor h (step_of t) q i

  abbrev c : Client
  c = (view t).client q

  abbrev gone : ℕ → Content
  gone = changed c.link i Nothing

  gone-links : links_of (emptied q i t) q ≡ gone
  gone-links = link-put t.links q i Nothing hi (has-link t q ready i hi) tt

  gone_others : (r : ℕ) → (r ≡ q → ⊥) → links_of (emptied q i t) r ≡ links_of t.links r
  gone_others r d = link-put_other t.links q i Nothing hi r d

  -- tables in which the client's row and links have changed
  abbrev moved_to : List ℕ → List ℕ → List ℕ → List ℕ → Tables
  moved_to clients links writes reads = tables_of (counted t.counts) clients links t.keys t.values t.log writes reads

  abbrev moved_press : (ℕ → ℕ) → (ℕ → Content) → Press
  moved_press row link = press_of (renumbered (step_of t + 1) (writes_of t) (reads_of t) (shared_of t)) (changed (view t).client q (client_of row link))

  module _ (clients links writes reads : List ℕ) {row : ℕ → ℕ} {link : ℕ → Content} (d : Delivered) where
    moved_fair : row_of clients q ≡ row → ((r : ℕ) → (r ≡ q → ⊥) → row_of clients r ≡ row_of t.clients r) →
        links_of links q ≡ link → ((r : ℕ) → (r ≡ q → ⊥) → links_of links r ≡ links_of t.links r) →
        (number_of_arrival d.arrival ≡ 8 → ⊥) → suc (step_of t) ≡ counted_arrival d.arrival (step_of t) →
        Kept floor h (replied q i d) (moved_press row link) → Budget (moved_press row link) → Okay (arrived d (moved_to clients links writes reads))
    moved_fair rows other-rows link-is other-links room step k b =
        let seen = view_is t (moved_to clients links writes reads) q (shared_step t.counts (step_of t + 1) t.keys t.values t.log ready.sound.long.counts) rows link-is other-rows other-links in
        record {
          kept = subst (λ (v : Press). Kept floor h (replied q i d) v) (sym seen) k;
          budget = subst Budget (sym seen) b;
          answers = tt;
          room = room;
          step = ap (λ (v : Press). v.shared.step) seen ∙ add-one (step_of t) ∙ step;
        }

  -- words of the row that a step puts one behind the other
  one_word : (f v : ℕ) → f < client_width → row_of (put_client_word t.clients q f v) q ≡ changed c.row f v
  one_word f v l = row_put t.clients q f v l (has-row t q ready)

  one_others : (f v : ℕ) → f < client_width → (r : ℕ) → (r ≡ q → ⊥) → row_of (put_client_word t.clients q f v) r ≡ row_of t.clients r
  one_others f v l r d = row-put_other t.clients q f v l r d

  two-words : (f v g u : ℕ) → f < client_width → g < client_width → row_of (put_client_word (put_client_word t.clients q f v) q g u) q ≡ changed (changed c.row f v) g u
  two-words f v g u l m =
      row_put (put_client_word t.clients q f v) q g u m (rw (word-length client_width t.clients q f v) (has-row t q ready))
      ∙ ap (λ (x : ℕ → ℕ). changed x g u) (one_word f v l)

  two_others : (f v g u : ℕ) → f < client_width → g < client_width → (r : ℕ) → (r ≡ q → ⊥) → row_of (put_client_word (put_client_word t.clients q f v) q g u) r ≡ row_of t.clients r
  two_others f v g u l m r d = row-put_other (put_client_word t.clients q f v) q g u m r d ∙ one_others f v l r d

  -- a word that two others leave
  left_by : (f v g u x : ℕ) → (x ≡ f → ⊥) → (x ≡ g → ⊥) → changed (changed c.row f v) g u x ≡ c.row x
  left_by f v g u x d e = changed_other (changed c.row f v) g u x e ∙ changed_other c.row f v x d

  module _ (w : Contents) (lk : content_at t q i ≡ Reply w) where
    link : c.link i ≡ Reply w
    link = link_at_lem t q i hi ∙ lk

    delivered_is : reply_delivered q i t ≡ on_reply_in (state_of t q) w q i t
    unfolding reply_delivered
    delivered_is = rw lk

    in_state : (state : ℕ) → state_in c ≡ state → reply_delivered q i t ≡ on_reply_in state w q i t
    in_state state e = delivered_is ∙ ap (λ (x : ℕ). on_reply_in x w q i t) (sym (row_at t q state_field (omega arith)) ∙ e)

    -- whether the last reply is in
    come : pending (emptied q i t) q ≡ true → 0 < to_come gone
    come e = subst (λ (l : ℕ → Content). 0 < to_come l) gone-links (pending_come (emptied q i t) q e)

    none_left : pending (emptied q i t) q ≡ false → to_come gone ≡ 0
    none_left e = subst (λ (l : ℕ → Content). to_come l ≡ 0) gone-links (none_come (emptied q i t) q e)

    gone-budget : (row : ℕ → ℕ) (state : ℕ) → row state_field ≡ state → (state ≡ rules.writing → ⊥) → (state ≡ entering → ⊥) →
        Budget (moved_press row gone)
    gone-budget row state is a b = further (view t) budget q (in_range t q ready) (client_of row gone) state is a b

    done_fair : state_in c ≡ rules.writing → Does floor (view t) h q Writing → Okay (on_set_done q i t)
    unfolding on_set_done
    done_fair state a =
        by-test (pending (emptied q i t) q)
        (λ b. rw b (
        moved_fair t.clients (emptied q i t) t.writes t.reads (nothing_shown arrival.Wait) refl (λ r d. refl) gone-links gone_others (λ z. omega arith) refl
        (done-wait-kept floor (view t) h tied (few t q ready) q (in_range t q ready) (step_of t + 1) (writes_of t) (reads_of t) i hi w link a state)
        (write-link-budget (view t) budget q (in_range t q ready) i Nothing state (omega arith))
        ))
        (λ b. rw b (
        moved_fair (put_client_word t.clients q state_field entering) (put_link (emptied q i t) q coordinator enter) t.writes t.reads (nothing_shown arrival.Next)
        (one_word state_field entering (omega arith)) (one_others state_field entering (omega arith))
        (link-put (emptied q i t) q coordinator enter (omega arith) (rw (link-length t.links q i Nothing) (has-link t q ready coordinator (omega arith))) fits ∙ ap₂ (λ (l : ℕ → Content) (x : Content). changed l coordinator x) gone-links enter_is)
        (λ r d. link-put_other (emptied q i t) q coordinator enter (omega arith) r d ∙ gone_others r d) (λ z. omega arith) refl
        (done-next-kept floor (view t) h tied (few t q ready) q (in_range t q ready) (step_of t + 1) (writes_of t) (reads_of t) i hi w link a (none_left b) (changed c.row state_field entering)
        (changed-same c.row state_field entering) (changed_other c.row state_field entering count_field (λ e. omega arith)) (changed_other c.row state_field entering mask_field (λ e. omega arith)))
        (last-budget (view t) budget q (in_range t q ready) (client_of (changed c.row state_field entering)
        (changed gone coordinator (request (key_of (count_in c) q) (mask_in c)))) (changed-same c.row state_field entering) state)
        ))
      where
        enter : Content
        enter = request (key_of (count_of t q) q) (mask_of t q)

        fits : FitsByte (key_of (count_of t q) q)
        fits = record { count = rw (row_at t q count_field (omega arith)) at a.few; client = omega (arith, in_range t q ready) }

        enter_is : enter ≡ request (key_of (count_in c) q) (mask_in c)
        enter_is = rw (row_at t q count_field (omega arith), row_at t q mask_field (omega arith))

    entered_fair : Does floor (view t) h q Entering → Okay (on_entered w q i t)
    unfolding on_entered
    entered_fair a =
        let at = at-coordinator c.link i hi link (omega arith) a.others in
        let there : c.link coordinator ≡ Reply w = ap c.link (sym at) ∙ link in
        moved_fair (put_client_word (put_client_word t.clients q tag_field w.number) q state_field idle) (emptied q i t) (ended_record (record_of t q) (next_step t) t.writes) t.reads (nothing_shown (arrival.Write w.number))
        (two-words tag_field w.number state_field idle (omega arith) (omega arith)) (two_others tag_field w.number state_field idle (omega arith) (omega arith)) gone-links gone_others (λ z. omega arith) refl
        (rw at (entered-kept floor (view t) h tied (few t q ready) q (in_range t q ready) (step_of t + 1) (writes_of t) (reads_of t) w there a (changed (changed c.row tag_field w.number) state_field idle)
        (changed-same (changed c.row tag_field w.number) state_field idle) (left_by tag_field w.number state_field idle count_field (λ e. omega arith) (λ e. omega arith))))
        (gone-budget (changed (changed c.row tag_field w.number) state_field idle) idle
        (changed-same (changed c.row tag_field w.number) state_field idle) (λ e. omega arith) (λ e. omega arith))

    mask_at : mask_in c ≡ mask_of t q
    mask_at = row_at t q mask_field (omega arith)

    -- B: the keys arrived, and with them the tags that they come from
    keys_fair : state_in c ≡ asking_keys → Does floor (view t) h q AskingKeys → Okay (on_keys w q i t)
    unfolding on_keys
    keys_fair state a =
        let at = at-coordinator c.link i hi link (omega arith) a.others in
        let there : c.link coordinator ≡ Reply w = ap c.link (sym at) ∙ link in
        moved_fair clients' (sent_gets q (mask_of t q) t.log tag (servers_of t) (emptied q i t))
        t.writes t.reads (nothing_shown arrival.Next)
        refl
        (λ r d. kept_rows asked_field wanted (latest_word t.log tag) q (servers_of t) asked_room kept r d
        ∙ kept_rows tags_field wanted (latest_tag_at t.log tag) q (servers_of t) room turned r d
        ∙ two_others tag_field tag state_field asking_setpoints (omega arith) (omega arith) r d)
        (sent-links q gets (λ j. at-word-fits _) (mask_of t q) (servers_of t) (omega (arith, few t q ready)) bound (emptied q i t) long (empty at) ∙ ap (λ (m : ℕ). sends m gets) (sym mask_at))
        (λ r d. sent_others q gets (λ j. at-word-fits _) (mask_of t q) (servers_of t) (omega (arith, few t q ready)) bound (emptied q i t) long (empty at) r d ∙ gone_others r d) (λ z. omega arith) refl
        (rw at (keys_kept floor (view t) h tied (few t q ready) q (in_range t q ready) (step_of t + 1) (writes_of t) (reads_of t) w there a
        (row_of clients' q) asked_state
        (word count_field (omega arith) ∙ left_by tag_field tag state_field asking_setpoints count_field (λ e. omega arith) (λ e. omega arith))
        (word mask_field (omega arith) ∙ left_by tag_field tag state_field asking_setpoints mask_field (λ e. omega arith) (λ e. omega arith))
        (word tag_field (omega arith) ∙ changed_other (changed c.row tag_field tag) state_field asking_setpoints tag_field (λ e. omega arith)
        ∙ changed-same c.row tag_field tag)
        (λ j m. kept-ahead asked_field wanted (latest_word t.log tag) q (servers_of t) asked_room kept (tags_field + j)
        (omega (arith, a.bound j m, few t q ready))
        ∙ kept_word tags_field wanted (latest_tag_at t.log tag) q (servers_of t) room turned turned-has j (a.bound j m) (rw mask_at at m))
        (λ j m. kept_word asked_field wanted (latest_word t.log tag) q (servers_of t) asked_room kept kept-has
        j (a.bound j m) (rw mask_at at m))))
        (further (view t) budget q (in_range t q ready) asked asking_setpoints asked_state (λ e. omega arith) (λ e. omega arith))
      where
        tag : ℕ
        tag = w.number - 1

        wanted : ℕ → Bool
        wanted = has_server (mask_of t q)

        -- the row with its tag and state, then with the tags of the wanted servers, and then with the keys
        turned : List ℕ
        turned = put_client_word (put_client_word t.clients q tag_field tag) q state_field asking_setpoints

        kept : List ℕ
        kept = kept_tags q (mask_of t q) t.log tag (servers_of t) turned

        clients' : List ℕ
        clients' = kept_keys q (mask_of t q) t.log tag (servers_of t) kept

        room : tags_field + servers_of t ≤ client_width
        room = omega (arith, few t q ready)

        asked_room : asked_field + servers_of t ≤ client_width
        asked_room = omega (arith, few t q ready)

        turned-has : HasRow client_width turned q
        turned-has =
            let one = put_client_word t.clients q tag_field tag in
            rw (word-length client_width one q state_field asking_setpoints, word-length client_width t.clients q tag_field tag) (has-row t q ready)

        kept-has : HasRow client_width kept q
        kept-has = rw (kept-length tags_field wanted (latest_tag_at t.log tag) q (servers_of t) room turned) turned-has

        word : (f : ℕ) → f < tags_field → row_of clients' q f ≡ changed (changed c.row tag_field tag) state_field asking_setpoints f
        word f l =
            kept-ahead asked_field wanted (latest_word t.log tag) q (servers_of t) asked_room kept f (omega arith)
            ∙ kept-ahead tags_field wanted (latest_tag_at t.log tag) q (servers_of t) room turned f l
            ∙ ap (λ (row : ℕ → ℕ). row f) (two-words tag_field tag state_field asking_setpoints (omega arith) (omega arith))

        gets : ℕ → Content
        gets j = request (latest_key t.log j tag) 0

        asked : Client
        asked = client_of (row_of clients' q) (sends (mask_in c) gets)

        asked_state : state_in asked ≡ asking_setpoints
        asked_state = word state_field (omega arith) ∙ changed-same (changed c.row tag_field tag) state_field asking_setpoints

        bound : (j : ℕ) → has_server (mask_of t q) j ≡ true → j < servers_of t
        bound j m = a.bound j (rw mask_at m)

        long : HasLinks (emptied q i t) q
        long = rw (link-length t.links q i Nothing) (has-links t q ready)

        empty : i ≡ coordinator → (j : ℕ) → j < targets → (link_at (emptied q i t) q j).content ≡ Nothing
        empty at j l =
            sym (within_at targets Nothing (λ u. (link_at (emptied q i t) q u).content) j l) ∙ ap (λ (f : ℕ → Content). f j) gone-links
            ∙ by_equal j i (λ e. rw e (changed-same c.link i Nothing)) (λ d. changed_other c.link i Nothing j d ∙ a.others j (omega arith))

    -- a setpoint arrived
    got_fair : state_in c ≡ asking_setpoints → Does floor (view t) h q Getting → Okay (on_got w q i t)
    unfolding on_got
    got_fair state a =
        by-test (pending (emptied q i t) q)
        (λ b. rw b (
        moved_fair (got_value w q i t) (emptied q i t) t.writes t.reads (nothing_shown arrival.Wait)
        got-row got_others gone-links gone_others (λ z. omega arith) refl
        (got-wait-kept floor (view t) h tied (few t q ready) q (in_range t q ready) (step_of t + 1) (writes_of t) (reads_of t) i hi w link a row
        (low_word count_field (omega arith)) (low_word mask_field (omega arith)) (low_word tag_field (omega arith))
        new_setpoint (λ j l d. other_word (setpoints_field + j) (λ e. d (omega arith)) (λ e. omega arith))
        (changed-same _ (badges_field + i) w.badge)
        (λ j l d. other_word (badges_field + j) (λ e. omega (arith, server)) (λ e. d (omega arith)))
        (λ j l. other_word (tags_field + j) (λ e. omega (arith, server)) (λ e. omega arith))
        (λ j l. other_word (asked_field + j) (λ e. omega (arith, server)) (λ e. omega (arith, server)))
        (come b) (low_word state_field (omega arith) ∙ state))
        (gone-budget row asking_setpoints (low_word state_field (omega arith) ∙ state) (λ e. omega arith) (λ e. omega arith))
        ))
        (λ b. rw (b, ← row_at t q tag_field (omega arith)) (
        moved_fair (put_client_word (got_value w q i t) q state_field idle) (emptied q i t) t.writes
        (ended_record (record_of t q) (next_step t) (tagged_record (record_of t q) (tag_in c) t.reads))
        (read_shown (tag_in c) (shown_tags (got_value w q i t) q (mask_of t q)) (got_value w q i t) q (mask_of t q))
        ended-row ended_others gone-links gone_others (λ z. omega arith) refl
        (got-end-kept floor (view t) h tied (few t q ready) q (in_range t q ready) (step_of t + 1) (writes_of t) (reads_of t) i hi w link a ended
        (ended-word count_field (λ e. omega arith) ∙ low_word count_field (omega arith)) (ended-word mask_field (λ e. omega arith) ∙ low_word mask_field (omega arith))
        (ended-word tag_field (λ e. omega arith) ∙ low_word tag_field (omega arith))
        (ended-word (setpoints_field + i) (λ e. omega arith) ∙ new_setpoint)
        (λ j l d. ended-word (setpoints_field + j) (λ e. omega arith) ∙ other_word (setpoints_field + j) (λ e. d (omega arith)) (λ e. omega arith))
        (ended-word (badges_field + i) (λ e. omega arith) ∙ changed-same _ (badges_field + i) w.badge)
        (λ j l d. ended-word (badges_field + j) (λ e. omega arith) ∙ other_word (badges_field + j) (λ e. omega (arith, server)) (λ e. d (omega arith)))
        (λ j l. ended-word (tags_field + j) (λ e. omega arith) ∙ other_word (tags_field + j) (λ e. omega (arith, server)) (λ e. omega arith))
        (λ j l. ended-word (asked_field + j) (λ e. omega arith)
        ∙ other_word (asked_field + j) (λ e. omega (arith, server)) (λ e. omega (arith, server)))
        (none_left b) (changed-same row state_field idle)
        (shown_setpoints (got_value w q i t) q (mask_of t q)) (λ j m. shows setpoints_field (omega arith) (omega arith) j m)
        (shown_tags (got_value w q i t) q (mask_of t q)) (λ j m. shows tags_field (omega arith) (omega arith) j m)
        (shown_badges (got_value w q i t) q (mask_of t q)) (λ j m. shows badges_field (omega arith) (omega arith) j m))
        (gone-budget ended idle (changed-same row state_field idle) (λ e. omega arith) (λ e. omega arith))
        ))
      where
        row : ℕ → ℕ
        row = changed (changed c.row (setpoints_field + i) w.number) (badges_field + i) w.badge

        ended : ℕ → ℕ
        ended = changed row state_field idle

        server : i < 16
        server =
            let asks = link-asks t q i ((ready.sound.client q ready.client).link i hi) in
            let was : state_of t q ≡ asking_setpoints = sym (row_at t q state_field (omega arith)) ∙ state in
            let used = asks.used (λ e. omega (arith, reply-kind t.links q i w asks.kind lk)) in
            omega (
              arith,
              masked-server t ready.sound q i ready.client (sym (uses_setpoints (mask_of t q) i) ∙ (rw was at used)),
              few t q ready,
            )

        got-row : row_of (got_value w q i t) q ≡ row
        got-row = two-words (setpoints_field + i) w.number (badges_field + i) w.badge (omega (arith, server)) (omega (arith, server))

        got_others : (r : ℕ) → (r ≡ q → ⊥) → row_of (got_value w q i t) r ≡ row_of t.clients r
        got_others =
            two_others (setpoints_field + i) w.number (badges_field + i) w.badge (omega (arith, server)) (omega (arith, server))

        got-has : HasRow client_width (got_value w q i t) q
        got-has =
            rw (
              word-length client_width (put_client_word t.clients q (setpoints_field + i) w.number) q (badges_field + i) w.badge,
              word-length client_width t.clients q (setpoints_field + i) w.number,
            ) (has-row t q ready)

        ended-row : row_of (put_client_word (got_value w q i t) q state_field idle) q ≡ ended
        ended-row =
            row_put (got_value w q i t) q state_field idle (omega arith) got-has ∙ ap (λ (x : ℕ → ℕ). changed x state_field idle) got-row

        ended_others : (r : ℕ) → (r ≡ q → ⊥) → row_of (put_client_word (got_value w q i t) q state_field idle) r ≡ row_of t.clients r
        ended_others r d = row-put_other (got_value w q i t) q state_field idle (omega arith) r d ∙ got_others r d

        other_word : (x : ℕ) → (x ≡ setpoints_field + i → ⊥) → (x ≡ badges_field + i → ⊥) → row x ≡ c.row x
        other_word x d e = left_by (setpoints_field + i) w.number (badges_field + i) w.badge x d e

        low_word : (x : ℕ) → x < setpoints_field → row x ≡ c.row x
        low_word x l = other_word x (λ e. omega arith) (λ e. omega arith)

        new_setpoint : row (setpoints_field + i) ≡ w.number
        new_setpoint =
            changed_other _ (badges_field + i) w.badge (setpoints_field + i)
            (λ e. omega arith) ∙ changed-same c.row (setpoints_field + i) w.number

        ended-word : (x : ℕ) → (x ≡ state_field → ⊥) → ended x ≡ row x
        ended-word x d = changed_other row state_field idle x d

        -- what is shown of the words from a field on: the setpoints, the tags and the badges
        shows : (field : ℕ) → state_field < field → field + 16 ≤ client_width →
            (j : ℕ) → has_server (mask_in c) j ≡ true → get_or (shown_words field (got_value w q i t) q (mask_of t q)) j 0 ≡ ended (field + j)
        shows field behind fits j m =
            let l : j < 16 = omega (arith, a.bound j m, few t q ready) in
            shown_at field (got_value w q i t) q (mask_of t q) j l (rw mask_at at m)
            ∙ sym (within_at client_width 0 (client_word (got_value w q i t) q) (field + j) (omega arith))
            ∙ ap (λ (f : ℕ → ℕ). f (field + j)) got-row
            ∙ sym (changed_other row state_field idle (field + j) (λ e. omega arith))

    -- C: how much a server or the coordinator holds arrived
    all_fair : state_in c ≡ asking_all → Does floor (view t) h q AskingAll → Okay (on_all w q i t)
    unfolding on_all within
    all_fair state a =
        by-test (pending (emptied q i t) q)
        (λ b. rw b (
        moved_fair told (emptied q i t) t.writes t.reads (nothing_shown arrival.Wait)
        told-row (one_others (received_field + i) w.number (omega arith)) gone-links gone_others (λ z. omega arith) refl
        (told-wait-kept floor (view t) h tied (few t q ready) q (in_range t q ready) (step_of t + 1) (writes_of t) (reads_of t) i hi w link a row (other_word mask_field (λ e. omega arith)) new old
        (come b) (other_word state_field (λ e. omega arith) ∙ state) (other_word count_field (λ e. omega arith)))
        (gone-budget row asking_all (other_word state_field (λ e. omega arith) ∙ state) (λ e. omega arith) (λ e. omega arith))
        ))
        (λ b. rw b (
        moved_fair (put_client_word (concluded tag told q t) q state_field idle) (emptied q i t) t.writes
        (ended_record (record_of t q) (next_step t) (tagged_record (record_of t q) tag t.reads))
        (read_shown tag from (concluded tag told q t) q (mask_of t q))
        refl ended_others gone-links gone_others (λ z. omega arith) refl
        (told-end-kept floor (view t) h tied (few t q ready) q (in_range t q ready) (step_of t + 1) (writes_of t) (reads_of t) i hi w link a row (other_word mask_field (λ e. omega arith)) new old
        (none_left b) (received_in told q) same (row_of (put_client_word (concluded tag told q t) q state_field idle) q) ended_state ended-count
        (shown_setpoints (concluded tag told q t) q (mask_of t q)) shows from comes (shown_badges (concluded tag told q t) q (mask_of t q)) by)
        (gone-budget (row_of (put_client_word (concluded tag told q t) q state_field idle) q) idle ended_state (λ e. omega arith)
        (λ e. omega arith))
        ))
      where
        told : List ℕ
        told = got_number w q i t

        row : ℕ → ℕ
        row = changed c.row (received_field + i) w.number

        told-row : row_of told q ≡ row
        told-row = one_word (received_field + i) w.number (omega arith)

        other_word : (x : ℕ) → (x ≡ received_field + i → ⊥) → row x ≡ c.row x
        other_word x d = changed_other c.row (received_field + i) w.number x d

        new : row (received_field + i) ≡ w.number
        new = changed-same c.row (received_field + i) w.number

        old : (j : ℕ) → (j ≡ i → ⊥) → row (received_field + j) ≡ c.row (received_field + j)
        old j d = other_word (received_field + j) (λ e. d (omega arith))

        same : (j : ℕ) → j < targets → received_in told q j ≡ row (received_field + j)
        same j l = sym (within_at client_width 0 (client_word told q) (received_field + j) (omega arith)) ∙ ap (λ (f : ℕ → ℕ). f (received_field + j)) told-row

        tag : ℕ
        tag = tag_chosen told q t

        value : ℕ → ℕ
        value = setpoint_at tag told q t

        badge : ℕ → ℕ
        badge = badge_at tag told q t

        -- the tags shown with the setpoints
        from : List ℕ
        from = chosen_tags t.log (mask_of t q) (servers_of t) tag

        comes : (j : ℕ) → has_server (mask_in c) j ≡ true → get_or from j 0 ≡ latest_tag_at t.log tag j
        comes j m =
            laid_at (has_server (mask_of t q)) (latest_tag_at t.log tag) (servers_of t) j (few t q ready) (a.bound j m) (rw mask_at at m)

        -- the row at the end: setpoints and badges at the tag, then the n forgotten, then the tag and the state
        kept : List ℕ
        kept = kept_setpoints value q (mask_of t q) (servers_of t) told

        badged : List ℕ
        badged = kept_badges badge q (mask_of t q) (servers_of t) kept

        forgot : List ℕ
        forgot = forgotten q badged

        room : setpoints_field + servers_of t ≤ client_width
        room = omega (arith, few t q ready)

        badge_room : badges_field + servers_of t ≤ client_width
        badge_room = omega (arith, few t q ready)

        told-has : HasRow client_width told q
        told-has = rw (word-length client_width t.clients q (received_field + i) w.number) (has-row t q ready)

        kept-has : HasRow client_width kept q
        kept-has = rw (kept-length setpoints_field (has_server (mask_of t q)) value q (servers_of t) room told) told-has

        badged-has : HasRow client_width badged q
        badged-has = rw (kept-length badges_field (has_server (mask_of t q)) badge q (servers_of t) badge_room kept) kept-has

        forgot-has : HasRow client_width forgot q
        forgot-has = rw (kept-length received_field every (λ j. 0) q targets (omega arith) badged) badged-has

        concluded-has : HasRow client_width (concluded tag told q t) q
        concluded-has = rw (word-length client_width forgot q tag_field tag) forgot-has

        ended_others : (r : ℕ) → (r ≡ q → ⊥) → row_of (put_client_word (concluded tag told q t) q state_field idle) r ≡ row_of t.clients r
        ended_others r d =
            row-put_other (concluded tag told q t) q state_field idle (omega arith) r d
            ∙ row-put_other forgot q tag_field tag (omega arith) r d
            ∙ kept_rows received_field every (λ j. 0) q targets (omega arith) badged r d
            ∙ kept_rows badges_field (has_server (mask_of t q)) badge q (servers_of t) badge_room kept r d
            ∙ kept_rows setpoints_field (has_server (mask_of t q)) value q (servers_of t) room told r d
            ∙ one_others (received_field + i) w.number (omega arith) r d

        ended_state : row_of (put_client_word (concluded tag told q t) q state_field idle) q state_field ≡ idle
        ended_state = within_at client_width 0 (client_word (put_client_word (concluded tag told q t) q state_field idle) q) state_field (omega arith) ∙ word_same client_width (concluded tag told q t) q state_field idle concluded-has (omega arith)

        -- a word of the row but for the tag and the n; before the n, no badge either
        badged-word : (f : ℕ) → f < client_width → (f ≡ tag_field → ⊥) → ((received_field ≤ f) × (f < received_field + targets) → ⊥) →
            client_word (concluded tag told q t) q f ≡ client_word badged q f
        badged-word f l d e =
            word_other client_width forgot q tag_field tag q f (omega arith) l (λ z. d z.1)
            ∙ kept_other received_field every (λ j. 0) q targets (omega arith) badged q f l (λ z. e (z.1, z.2))

        concluded-word : (f : ℕ) → f < received_field → (f ≡ tag_field → ⊥) → client_word (concluded tag told q t) q f ≡ client_word kept q f
        concluded-word f l d =
            badged-word f (omega arith) d (λ e. omega (arith, e.0))
            ∙ kept_other badges_field (has_server (mask_of t q)) badge q (servers_of t) badge_room kept q f (omega arith)
            (λ e. omega (arith, e.1))

        ended-count : row_of (put_client_word (concluded tag told q t) q state_field idle) q count_field ≡ count_in c
        ended-count =
            within_at client_width 0 (client_word (put_client_word (concluded tag told q t) q state_field idle) q) count_field (omega arith)
            ∙ word_other client_width (concluded tag told q t) q state_field idle q count_field (omega arith) (omega arith) (λ e. omega (arith, e.1))
            ∙ concluded-word count_field (omega arith) (λ e. omega arith)
            ∙ kept_other setpoints_field (has_server (mask_of t q)) value q (servers_of t) room told q count_field
            (omega arith) (λ e. omega (arith, e.1))
            ∙ word_other client_width t.clients q (received_field + i) w.number q count_field (omega arith) (omega arith) (λ e. omega (arith, e.1))
            ∙ sym (row_at t q count_field (omega arith))

        shows : (j : ℕ) → has_server (mask_in c) j ≡ true → get_or (shown_setpoints (concluded tag told q t) q (mask_of t q)) j 0 ≡ value j
        shows j m =
            let l : j < servers_of t = a.bound j m in
            shown_at setpoints_field (concluded tag told q t) q (mask_of t q) j (omega (arith, few t q ready)) (rw mask_at at m)
            ∙ concluded-word (setpoints_field + j) (omega (arith, few t q ready)) (λ e. omega arith)
            ∙ kept_there setpoints_field (has_server (mask_of t q)) value q (servers_of t) room told j told-has l (rw mask_at at m)

        by : (j : ℕ) → has_server (mask_in c) j ≡ true → get_or (shown_badges (concluded tag told q t) q (mask_of t q)) j 0 ≡ badge j
        by j m =
            let l : j < servers_of t = a.bound j m in
            shown_at badges_field (concluded tag told q t) q (mask_of t q) j (omega (arith, few t q ready)) (rw mask_at at m)
            ∙ badged-word (badges_field + j) (omega (arith, few t q ready)) (λ e. omega arith) (λ e. omega (arith, e.1))
            ∙ kept_there badges_field (has_server (mask_of t q)) badge q (servers_of t) badge_room kept j kept-has l (rw mask_at at m)

    in_activity : Does floor (view t) h q Activity → Okay (reply_delivered q i t)
    unfolding on_reply_in
    in_activity (at_rest e a) = not-empty (Reply w) (omega arith) (sym link ∙ a.links i hi)
    in_activity (at-writing e a) = subst (Okay) (sym (in_state rules.writing e)) (done_fair e a)
    in_activity (at-entering e a) = subst (Okay) (sym (in_state entering e)) (entered_fair a)
    in_activity (at-keys e a) = subst (Okay) (sym (in_state asking_keys e)) (keys_fair e a)
    in_activity (at-getting e a) = subst (Okay) (sym (in_state asking_setpoints e)) (got_fair e a)
    in_activity (at_all e a) = subst (Okay) (sym (in_state asking_all e)) (all_fair e a)

  by_content : (x : Content) → content_at t q i ≡ x → Okay (on_reply x q i t)
  unfolding reply_delivered
  by_content Nothing e = refused-reply floor t h s q i 9 (λ z. omega arith)
  by_content (Request w) e = refused-reply floor t h s q i 9 (λ z. omega arith)
  by_content Lost e = refused-reply floor t h s q i 9 (λ z. omega arith)
  by_content (Reply w) e = rw e at (in_activity w e (tied.clients q (in_range t q ready)).activity)

  delivered_fair : Okay (reply_delivered q i t)
  unfolding reply_delivered
  delivered_fair = by_content (content_at t q i) refl

-- The delivery, by facts: whichever refusals stand ahead of it.
module _ (floor : ℕ → ℕ) (t : Tables) (h : History) (s : Standing floor t h) (q i : ℕ) where
  pub reply_fair : Deliverable q i t → FairReply floor h (step_of t) q i (reply_delivered q i t)
  reply_fair d =
      let ready : Ready t q = record { sound = s.sound; client = d.client } in
      delivered_fair floor t h s q i ready (target_below t s.sound i d.target)
