-- A loss, and a request sent again, on the tables.
use Prim.Native.Nat.{ℕ, ◌+◌, ◌≤◌, ◌<◌}
use mathlib.Core.Path.{◌≡◌, refl, sym, ap, ◌∙◌, subst}
use mathlib.Core.List.{List}
use native.Mathlib.Omega.{arith}
use native.Mathlib.Numerals.{add-one}
use Rattle.keys.specs.Keys.{key_of, key_at_word, opening, FitsByte}
use Rattle.keys.specs.KeyLaws.{at-word-fits}
use Rattle.tables.specs.Layout.{state_field, count_field, mask_field, setpoints_field, write_badge_field, asked_field}
use Rattle.tables.specs.Links.{targets, ContentFits}
use Rattle.tables.specs.Tables.{Tables, step_of, writes_of, reads_of, state_of, count_of, content_at}
use Rattle.tables.specs.declared.links.Content.{Content}
use Rattle.tables.specs.declared.links.Content.TheVariants.{Nothing, Request, Reply, Lost}
use Rattle.rules.specs.Answer.{Ok}
use Rattle.rules.specs.Answers.{Left}
use Rattle.rules.specs.Common.{entering, asking_keys, asking_setpoints, asking_all, coordinator, request, set_request}
use Rattle.rules.specs.Common as rules
use Rattle.rules.specs.Request.{answered_by, refused}
use Rattle.rules.specs.Loss.{on_loss, link_lost, sent_in, on_resend, link_resent}
use Rattle.keeping.specs.Accepted.{Deliverable, target_below}
use Rattle.claim.specs.Steps.{lost, resent}
use Rattle.claim.specs.History.{changed, History}
use Rattle.serial.proofs.Press.{renumbered, Client, Press, press_of, state_in, mask_in, setpoint_in, write_badge_in, asked_in}
use Rattle.serial.proofs.Press.{shared_of, view, weight, world}
use Rattle.serial.proofs.View.{link-put, link-put_other, view_is, shared_step}
use Rattle.serial.proofs.Ready.{Ready, few, in_range, has-link, row_at, link_at_lem, not-empty, at-coordinator}
use Rattle.serial.proofs.Invariant.{own, WriteLink, Writing, EnterLink, Entering, AskingKeys, Getting, AskingAll, Activity, at_rest}
use Rattle.serial.proofs.Invariant.{at-writing, at-entering, at-keys, at-getting, at_all, Tied}
use Rattle.serial.proofs.Kept.{Kept, Does, passed-tied}
use Rattle.serial.proofs.Budget.{missing, held_in, entry_in, asks, Budget}
use Rattle.serial.proofs.Spending.{further, write-link-budget, enter-link-budget}
use Rattle.serial.proofs.Fair.{Standing, Fair}
use Rattle.serial.proofs.Requests.{with_link}
use Rattle.serial.proofs.Losses.{OnItsWay, set-lost-kept, enter-lost-kept, keys-lost-kept, get-lost-kept, all-lost-kept}
use Rattle.serial.proofs.Losses.{set-resent-kept, enter-resent-kept, keys-resent-kept, get-resent-kept, all-resent-kept}

-- what a loss, and a resend, answers and leaves is fair
abbrev pub FairLoss : (ℕ → ℕ) → History → ℕ → ℕ → ℕ → Left → Type 0
FairLoss floor h n q i x = Fair floor h n (record { event = lost q i x.answer; tables = x.tables })

abbrev pub FairResend : (ℕ → ℕ) → History → ℕ → ℕ → ℕ → Left → Type 0
FairResend floor h n q i x = Fair floor h n (record { event = resent q i x.answer; tables = x.tables })

module _ (floor : ℕ → ℕ) (t : Tables) (h : History) (s : Standing floor t h) (q i : ℕ) where
  pub refused_loss : (n : ℕ) → (n ≡ 8 → ⊥) → FairLoss floor h (step_of t) q i (refused n t)
  refused_loss n d =
      record { kept = (tt, passed-tied floor (view t) h s.tied); budget = s.budget; answers = tt; room = d; step = refl }

  pub refused-resend : (n : ℕ) → (n ≡ 8 → ⊥) → FairResend floor h (step_of t) q i (refused n t)
  refused-resend n d =
      record { kept = (tt, passed-tied floor (view t) h s.tied); budget = s.budget; answers = tt; room = d; step = refl }

module _ (floor : ℕ → ℕ) (t : Tables) (h : History) (s : Standing floor t h) (q i : ℕ) (ready : Ready t q) (hi : i < targets) where
  abbrev tied : Tied floor (view t) h
  tied = s.tied

  abbrev budget : Budget (view t)
  budget = s.budget

  abbrev Lostly : Left → Type 0
  Lostly = FairLoss floor h (step_of t) q i

  abbrev Again : Left → Type 0
  Again = FairResend floor h (step_of t) q i

  abbrev c : Client
  c = (view t).client q

  -- the tables with another content on the link
  abbrev put : Content → Press
  put l = press_of (renumbered (step_of t + 1) (writes_of t) (reads_of t) (shared_of t)) (changed (view t).client q (with_link c i l))

  put_view : (l : Content) → ContentFits l → view (answered_by l q i t).tables ≡ put l
  put_view l fits =
      view_is t (answered_by l q i t).tables q
      (shared_step t.counts (step_of t + 1) t.keys t.values t.log ready.sound.long.counts)
      refl (link-put t.links q i l hi (has-link t q ready i hi) fits)
      (λ r d. refl) (λ r d. link-put_other t.links q i l hi r d)

  lost_fair : Kept floor h (lost q i Ok) (put Lost) → Budget (put Lost) → Lostly (answered_by Lost q i t)
  lost_fair k b = record {
    kept = subst (λ (v : Press). Kept floor h (lost q i Ok) v) (sym (put_view Lost tt)) k;
    budget = subst Budget (sym (put_view Lost tt)) b;
    answers = tt;
    room = λ z. omega arith;
    step = ap (λ (v : Press). v.shared.step) (put_view Lost tt) ∙ add-one (step_of t);
  }

  resent_fair : (l : Content) → ContentFits l → Kept floor h (resent q i Ok) (put l) → Budget (put l) → Again (answered_by l q i t)
  resent_fair l fits k b = record {
    kept = subst (λ (v : Press). Kept floor h (resent q i Ok) v) (sym (put_view l fits)) k;
    budget = subst Budget (sym (put_view l fits)) b;
    answers = tt;
    room = λ z. omega arith;
    step = ap (λ (v : Press). v.shared.step) (put_view l fits) ∙ add-one (step_of t);
  }

  on_way-full : (l : Content) → OnItsWay l → 0 < weight l
  on_way-full Nothing o = absurd o
  on_way-full (Request w) o = omega arith
  on_way-full (Reply w) o = omega arith
  on_way-full Lost o = absurd o

  -- A loss. What is lost asks for no place that the link did not ask for: where it was a reply, the key is held, or in the log.
  module _ (l : Content) (lk : content_at t q i ≡ l) (way : OnItsWay l) where
    link : c.link i ≡ l
    link = link_at_lem t q i hi ∙ lk

    set-asks : (badge : ℕ) (setpoints : List ℕ) (k : Content) → OnItsWay k → WriteLink (world (view t) h) q c badge setpoints i k →
        asks Lost (missing (held_in (shared_of t) i (own q c))) ≤ asks k (missing (held_in (shared_of t) i (own q c)))
    set-asks badge setpoints Nothing o a = absurd o
    set-asks badge setpoints (Request w) o a = omega arith
    set-asks badge setpoints (Reply w) o a = omega (arith, ap missing a.1)
    set-asks badge setpoints Lost o a = absurd o

    enter-asks : (k : Content) → OnItsWay k → EnterLink h.extra (world (view t) h) (floor q) q c (h.doing q) k →
        asks Lost (missing (entry_in (shared_of t) (own q c))) ≤ asks k (missing (entry_in (shared_of t) (own q c)))
    enter-asks Nothing o a = absurd o
    enter-asks (Request w) o a = omega arith
    enter-asks (Reply w) o a = omega (arith, ap missing a.there)
    enter-asks Lost o a = absurd o

    set-lost : state_in c ≡ rules.writing → Does floor (view t) h q Writing → Lostly (answered_by Lost q i t)
    set-lost state a =
        lost_fair
        (set-lost-kept floor (view t) h tied q (in_range t q ready) (step_of t + 1) (writes_of t) (reads_of t) i hi l link way state a)
        (write-link-budget (view t) budget q (in_range t q ready) i Lost state
        (rw link (set-asks a.badge a.setpoints l way (rw link at (a.links i hi)))))

    at_head : ((j : ℕ) → j < coordinator → c.link j ≡ Nothing) → i ≡ coordinator
    at_head others = at-coordinator c.link i hi link (on_way-full l way) others

    enter-lost : state_in c ≡ entering → Does floor (view t) h q Entering → Lostly (answered_by Lost q i t)
    enter-lost state a =
        let at = at_head a.others in
        let there : c.link coordinator ≡ l = ap c.link (sym at) ∙ link in
        lost_fair
        (rw at (enter-lost-kept floor (view t) h tied q (in_range t q ready) (step_of t + 1) (writes_of t) (reads_of t) l there way state a))
        (rw at (enter-link-budget (view t) budget q (in_range t q ready) Lost state (rw there (enter-asks l way (rw there at a.entry)))))

    read-lost : (state : ℕ) → state_in c ≡ state → (state ≡ rules.writing → ⊥) → (state ≡ entering → ⊥) →
        Kept floor h (lost q i Ok) (put Lost) → Lostly (answered_by Lost q i t)
    read-lost state is a b k = lost_fair k (further (view t) budget q (in_range t q ready) (with_link c i Lost) state is a b)

    lost_in : Does floor (view t) h q Activity → Lostly (answered_by Lost q i t)
    lost_in (at_rest e a) = not-empty l (on_way-full l way) (sym link ∙ a.links i hi)
    lost_in (at-writing e a) = set-lost e a
    lost_in (at-entering e a) = enter-lost e a
    lost_in (at-keys e a) =
        read-lost asking_keys e (λ z. omega arith) (λ z. omega arith)
        (keys-lost-kept floor (view t) h tied q (in_range t q ready) (step_of t + 1) (writes_of t) (reads_of t) i hi l link way e
        (at_head a.others) a)
    lost_in (at-getting e a) =
        read-lost asking_setpoints e (λ z. omega arith) (λ z. omega arith)
        (get-lost-kept floor (view t) h tied q (in_range t q ready) (step_of t + 1) (writes_of t) (reads_of t) i hi l link way e a)
    lost_in (at_all e a) =
        read-lost asking_all e (λ z. omega arith) (λ z. omega arith)
        (all-lost-kept floor (view t) h tied q (in_range t q ready) (step_of t + 1) (writes_of t) (reads_of t) i hi l link way e a)

  loss_by_content : (l : Content) → content_at t q i ≡ l → Lostly (on_loss l q i t)
  loss_by_content Nothing e = refused_loss floor t h s q i 14 (λ z. omega arith)
  loss_by_content (Request w) e = lost_in (Request w) e tt (tied.clients q (in_range t q ready)).activity
  loss_by_content (Reply w) e = lost_in (Reply w) e tt (tied.clients q (in_range t q ready)).activity
  loss_by_content Lost e = refused_loss floor t h s q i 14 (λ z. omega arith)

  loss_is_fair : Lostly (link_lost q i t)
  unfolding link_lost
  loss_is_fair = loss_by_content (content_at t q i) refl

  -- A request sent again: what the row gives, by the client's state.
  module _ (lk : content_at t q i ≡ Lost) where
    lost-link : c.link i ≡ Lost
    lost-link = link_at_lem t q i hi ∙ lk

    -- what the row of the tables gives is what the client of the view gives
    in_state : (state : ℕ) → state_in c ≡ state → sent_in (state_of t q) q i t ≡ sent_in state q i t
    in_state state e = ap (λ (x : ℕ). sent_in x q i t) (sym (row_at t q state_field (omega arith)) ∙ e)

    abbrev Resends : Type 0
    Resends = Again (answered_by (sent_in (state_of t q) q i t) q i t)

    sends_so : (state : ℕ) (l : Content) → state_in c ≡ state → sent_in state q i t ≡ l → ContentFits l →
        Kept floor h (resent q i Ok) (put l) → Budget (put l) → Resends
    sends_so state l e is fits k b =
        subst (λ (m : Content). Again (answered_by m q i t)) (sym (in_state state e ∙ is)) (resent_fair l fits k b)

    own_key : key_of (count_of t q) q ≡ own q c
    own_key = ap (λ (n : ℕ). key_of n q) (sym (row_at t q count_field (omega arith)))

    own-fits : FitsByte (own q c)
    own-fits = record {
      count = omega (arith, (ready.sound.client q ready.client).count.most, row_at t q count_field (omega arith));
      client = omega (arith, in_range t q ready);
    }

    ask-fits : FitsByte opening
    ask-fits = record { count = omega arith; client = omega arith }

    at-head-again : ((j : ℕ) → j < coordinator → c.link j ≡ Nothing) → i ≡ coordinator
    at-head-again others = at-coordinator c.link i hi lost-link (omega arith) others

    -- what was lost asked for a place as the request does
    set-again : state_in c ≡ rules.writing → Does floor (view t) h q Writing → Resends
    unfolding sent_in
    set-again state a =
        let l = set_request (own q c) (write_badge_in c) (setpoint_in c i) in
        sends_so rules.writing l state
        (rw (own_key, ← row_at t q write_badge_field (omega arith), ← row_at t q (setpoints_field + i) (omega arith))) own-fits
        (set-resent-kept floor (view t) h tied q (in_range t q ready) (step_of t + 1) (writes_of t) (reads_of t) i hi lost-link state a)
        (write-link-budget (view t) budget q (in_range t q ready) i l state
        (rw lost-link (omega arith)))

    enter-again : state_in c ≡ entering → Does floor (view t) h q Entering → Resends
    unfolding sent_in
    enter-again state a =
        let at = at-head-again a.others in
        let there : c.link coordinator ≡ Lost = ap c.link (sym at) ∙ lost-link in
        let l = request (own q c) (mask_in c) in
        sends_so entering l state (rw (own_key, ← row_at t q mask_field (omega arith))) own-fits
        (rw at (enter-resent-kept floor (view t) h tied q (in_range t q ready) (step_of t + 1) (writes_of t) (reads_of t) there state a))
        (rw at (enter-link-budget (view t) budget q (in_range t q ready) l state (rw there (omega arith))))

    read_again : (l : Content) (state : ℕ) → state_in c ≡ state → (state ≡ rules.writing → ⊥) → (state ≡ entering → ⊥) → Budget (put l)
    read_again l state is a b = further (view t) budget q (in_range t q ready) (with_link c i l) state is a b

    keys-again : state_in c ≡ asking_keys → Does floor (view t) h q AskingKeys → Resends
    unfolding sent_in
    keys-again state a =
        sends_so asking_keys (request opening 0) state refl ask-fits
        (keys-resent-kept floor (view t) h tied q (in_range t q ready) (step_of t + 1) (writes_of t) (reads_of t) i hi lost-link state
        (at-head-again a.others) a)
        (read_again (request opening 0) asking_keys state (λ e. omega arith) (λ e. omega arith))

    get-again : state_in c ≡ asking_setpoints → Does floor (view t) h q Getting → Resends
    unfolding sent_in
    get-again state a =
        let server : i < 16 = omega (arith, a.bound i (rw lost-link at (a.links i hi)), few t q ready) in
        let l = request (key_at_word (asked_in c i)) 0 in
        sends_so asking_setpoints l state (rw (← row_at t q (asked_field + i) (omega arith))) (at-word-fits _)
        (get-resent-kept floor (view t) h tied q (in_range t q ready) (step_of t + 1) (writes_of t) (reads_of t) i hi lost-link state a)
        (read_again l asking_setpoints state (λ e. omega arith) (λ e. omega arith))

    all-again : state_in c ≡ asking_all → Does floor (view t) h q AskingAll → Resends
    unfolding sent_in
    all-again state a =
        sends_so asking_all (request opening 0) state refl ask-fits
        (all-resent-kept floor (view t) h tied q (in_range t q ready) (step_of t + 1) (writes_of t) (reads_of t) i hi lost-link state a)
        (read_again (request opening 0) asking_all state (λ e. omega arith) (λ e. omega arith))

    again_in : Does floor (view t) h q Activity → Resends
    again_in (at_rest e a) = not-empty Lost (omega arith) (sym lost-link ∙ a.links i hi)
    again_in (at-writing e a) = set-again e a
    again_in (at-entering e a) = enter-again e a
    again_in (at-keys e a) = keys-again e a
    again_in (at-getting e a) = get-again e a
    again_in (at_all e a) = all-again e a

  resend_by_content : (l : Content) → content_at t q i ≡ l → Again (on_resend l q i t)
  resend_by_content Nothing e = refused-resend floor t h s q i 15 (λ z. omega arith)
  resend_by_content (Request w) e = refused-resend floor t h s q i 15 (λ z. omega arith)
  resend_by_content (Reply w) e = refused-resend floor t h s q i 15 (λ z. omega arith)
  resend_by_content Lost e = again_in e (tied.clients q (in_range t q ready)).activity

  resend_is_fair : Again (link_resent q i t)
  unfolding link_resent
  resend_is_fair = resend_by_content (content_at t q i) refl

-- Both, by facts: whichever refusals stand ahead of them.
module _ (floor : ℕ → ℕ) (t : Tables) (h : History) (s : Standing floor t h) (q i : ℕ) (d : Deliverable q i t) where
  abbrev prepared : Ready t q
  prepared = record { sound = s.sound; client = d.client }

  pub loss_fair : FairLoss floor h (step_of t) q i (link_lost q i t)
  loss_fair = loss_is_fair floor t h s q i prepared (target_below t s.sound i d.target)

  pub resend_fair : FairResend floor h (step_of t) q i (link_resent q i t)
  resend_fair = resend_is_fair floor t h s q i prepared (target_below t s.sound i d.target)
