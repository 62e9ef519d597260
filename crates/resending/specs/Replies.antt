-- Deliveries of replies: the reply's link is empty then. What the row gives on the others stays, or they are sent what it gives.
use Rattle.std.specs.Prelude.{ℕ, ◌+◌, ◌-◌, ◌≤◌, ◌<◌, ◌≡◌, Bool, false, not, List, [], ◌∷◌, length}
use Rattle.std.proofs.Math.Path.{refl, sym, ap}
use Rattle.std.proofs.Common.{◌∙◌, subst}
use Rattle.std.proofs.Math.Bool.{true}
use native.Mathlib.Omega.{arith}
use Rattle.std.proofs.Math.Dec.{eqb}
use borrow.Author.Tests.{eqb-true, ne_eqb, eqb-false}
use Rattle.ranges.specs.Tests.{by-test, by_equal, not-both, both_left}
use Rattle.ranges.specs.AllLaws.{any_at}
use Rattle.keys.specs.Keys.{key_of, key_at_word}
use Rattle.keys.specs.Masks.{has_server}
use Rattle.tables.specs.Rows.{HasRow}
use Rattle.tables.specs.Layout.{client_width, client_word, state_field, count_field, mask_field, tag_field, setpoints_field, received_field}
use Rattle.tables.specs.Layout.{badges_field, asked_field}
use Rattle.tables.specs.Links.{targets, HasLinks, is_empty, link_at, put_link}
use Rattle.tables.specs.LinkLaws.{link-same, link-length}
use Rattle.tables.specs.Tables.{Tables, servers_of, clients_of, state_of, count_of, mask_of, tag_of, content_at}
use Rattle.tables.specs.declared.links.Contents.{Contents}
use Rattle.tables.specs.declared.links.Content.{Content}
use Rattle.tables.specs.declared.links.Content.TheVariants.{Nothing, Request, Reply, Lost}
use Rattle.rules.specs.Answers.{Arrived}
use Rattle.rules.specs.Common.{writing, entering, asking_keys, asking_setpoints, asking_all, coordinator, request, filled, pending}
use Rattle.rules.specs.Reply.{moved, shown_tags, ended_read, got_value, got_number, tag_chosen, ended_by_c}
use Rattle.rules.specs.Reply.{emptied, on_set_done, on_entered, on_keys, on_got, on_all, on_reply_in, on_reply, reply_delivered}
use Rattle.rules.specs.Loss.{sent_by}
use Rattle.soundness.specs.Sound.{uses, content_sound, state_allowed}
use Rattle.soundness.specs.Facts.{Sound}
use Rattle.soundness.specs.Room.{few_servers, client-fits, client-row, client-links, link_row_lem}
use Rattle.keeping.specs.States.{by_state, masked_below, uses-writing, uses-entering, uses-keys, uses_setpoints, uses-all}
use Rattle.keeping.specs.Rows.{Put, put, put_all, put-read, put_skip, put-length}
use Rattle.resending.specs.Sent.{sent-entering, sent_setpoints, sent-all}
use Rattle.resending.specs.Carried.{Carried, carried_still, carried-fresh, carried-empty, unused-empty}
use Rattle.resending.specs.Still.{still-same, still-carries, same_rows, own-fits}
use Rattle.resending.specs.Rounds.{held_on, beside}
use Rattle.resending.specs.Gets.{gets_carry}

module _ (t : Tables) (s : Sound t) (q i : ℕ) (client : q < clients_of t) (target : i < targets) (w : Contents) (lk : content_at t q i ≡ Reply w) where
  abbrev Own : Tables → Type 0
  Own t' = (j : ℕ) → j < targets → Carried t t' q j

  abbrev Owns : Arrived → Type 0
  Owns x = Own x.tables

  abbrev rest : List ℕ
  rest = emptied q i t

  gone : held_on q rest i ≡ Nothing
  gone = link-same t.links q i Nothing (link_row_lem t s q client i target) tt

  rest_long : HasLinks rest q
  rest_long = rw (link-length t.links q i Nothing) (client-links t s q client)

  has : HasRow client_width t.clients q
  has = client-row t s q client

  used : uses (state_of t q) (mask_of t q) i ≡ true
  used = by-test (uses (state_of t q) (mask_of t q) i) (λ u. u) (λ u. absurd (not-both (unused-empty t s q i client target u) (ap is_empty lk)))

  -- a link that is not empty is one that the state uses
  uses-full : (j : ℕ) → j < targets → is_empty (content_at t q j) ≡ false → uses (state_of t q) (mask_of t q) j ≡ true
  uses-full j l full = by-test (uses (state_of t q) (mask_of t q) j) (λ u. u) (λ u. absurd (not-both (unused-empty t s q j client l u) full))

  -- the reply's link is empty, and of the others that are not the row gives what it gave
  emptied-carries : (t' : Tables) → t'.links ≡ rest →
      ((j : ℕ) → j < targets → (j ≡ i → ⊥) → is_empty (content_at t q j) ≡ false → sent_by q j t' ≡ sent_by q j t) → Own t'
  emptied-carries t' links same j l =
      let held : content_at t' q j ≡ held_on q rest j = ap (λ (xs : List ℕ). held_on q xs j) links in
      by_equal j i
      (λ e. carried-empty t t' q j (ap is_empty (held ∙ ap (held_on q rest) e ∙ gone)))
      (λ d. let stays : content_at t' q j ≡ content_at t q j = held ∙ beside t.links q i j Nothing d in
      by-test (is_empty (content_at t q j))
      (λ e. carried-empty t t' q j (ap is_empty stays ∙ e))
      (λ e. carried_still t t' q j (same j l d e) (λ z. stays)))

  -- nothing is pending: all links are empty
  none_left : pending rest q ≡ false → (j : ℕ) → j < targets → is_empty (held_on q rest j) ≡ true
  none_left none j l =
      by-test (is_empty (held_on q rest j)) (λ e. e)
      (λ e. absurd (not-both (any_at (filled rest q) targets j l (ap not e)) none))

  ended-carries : (t' : Tables) → t'.links ≡ rest → pending rest q ≡ false → Own t'
  ended-carries t' links none j l =
      carried-empty t t' q j (ap (λ (xs : List ℕ). is_empty (held_on q xs j)) links ∙ none_left none j l)

  same-entry : {count count' mask mask' : ℕ} → count' ≡ count → mask' ≡ mask → request (key_of count' q) mask' ≡ request (key_of count q) mask
  same-entry e f = rw (e, f)

  -- "key and mask go to the head": its link was empty, for state 1 asks stations alone
  abbrev entered : List Put
  entered = put state_field entering ∷ []

  abbrev enter : Content
  enter = request (key_of (count_of t q) q) (mask_of t q)

  next-carries : state_of t q ≡ writing → pending rest q ≡ false → (t' : Tables) → t'.clients ≡ put_all entered q t.clients →
      t'.links ≡ put_link rest q coordinator enter → Own t'
  next-carries state none t' clients links j l =
      let held : content_at t' q j ≡ held_on q (put_link rest q coordinator enter) j = ap (λ (xs : List ℕ). held_on q xs j) links in
      let word : (f : ℕ) → (f ≡ state_field → ⊥) → client_word t'.clients q f ≡ client_word t.clients q f =
      λ f d. ap (λ (xs : List ℕ). client_word xs q f) clients ∙ put_skip q entered t.clients f (d, tt) in
      let gives : sent_by q j t' ≡ enter =
      sent-entering t' q j
      (ap (λ (xs : List ℕ). client_word xs q state_field) clients ∙ put-read q entered t.clients state_field _ has refl (omega arith) refl)
      ∙ same-entry (word count_field (λ z. omega arith)) (word mask_field (λ z. omega arith)) in
      by_equal j coordinator
      (λ e. carried-fresh t t' q j
      (by-test (is_empty (content_at t q j)) (λ z. z)
      (λ z. let m : has_server (mask_of t q) j ≡ true = sym (ap (λ (n : ℕ). uses n (mask_of t q) j) state ∙ uses-writing (mask_of t q) j) ∙ uses-full j l z in
      let y : ⊥ = omega (arith, masked_below (mask_of t q) (servers_of t) j (s.client q client).mask m, few_servers t s) in absurd y))
      (λ full. held
      ∙ ap (held_on q (put_link rest q coordinator enter)) e
      ∙ link-same rest q coordinator enter (omega (arith, rest_long)) (own-fits t s q i client target)
      ∙ sym gives))
      (λ d. carried-empty t t' q j (ap is_empty (held ∙ beside rest q coordinator j enter d) ∙ none_left none j l))

  set_done-carries : state_of t q ≡ writing → Owns (on_set_done q i t)
  unfolding on_set_done
  set_done-carries state =
      by-test (pending rest q)
      (λ e. rw e (emptied-carries (moved t.clients rest t) refl (λ j l d full. same_rows t (moved t.clients rest t) q j refl)))
      (λ e. rw e (next-carries state e (moved (put_all entered q t.clients) (put_link rest q coordinator enter) t) refl refl))

  -- state 2 waits for the head alone
  only-head : (uses (state_of t q) (mask_of t q) i ≡ eqb i coordinator) →
      ((j : ℕ) → uses (state_of t q) (mask_of t q) j ≡ eqb j coordinator) → (j : ℕ) → j < targets → (j ≡ i → ⊥) → is_empty (content_at t q j) ≡ true
  only-head here all j l d =
      unused-empty t s q j client l (all j ∙ ne_eqb j coordinator (λ e. d (e ∙ sym (eqb-true i coordinator (sym here ∙ used)))))

  entered-carries : state_of t q ≡ entering → Owns (on_entered w q i t)
  unfolding on_entered
  entered-carries state =
      let all : (j : ℕ) → uses (state_of t q) (mask_of t q) j ≡ eqb j coordinator = λ j. ap (λ (n : ℕ). uses n (mask_of t q) j) state ∙ uses-entering (mask_of t q) j in
      emptied-carries (on_entered w q i t).tables refl (λ j l d full. absurd (not-both (only-head (all i) all j l d) full))

  -- B: the gets are sent; state 3 waited for the head alone
  abbrev kept : List Put
  kept = put tag_field (w.number - 1) ∷ put state_field asking_setpoints ∷ []

  keys-carries : state_of t q ≡ asking_keys → Owns (on_keys w q i t)
  unfolding on_keys
  keys-carries state j l =
      let all : (j : ℕ) → uses (state_of t q) (mask_of t q) j ≡ eqb j coordinator = λ j. ap (λ (n : ℕ). uses n (mask_of t q) j) state ∙ uses-keys (mask_of t q) j in
      let server : (j : ℕ) → has_server (mask_of t q) j ≡ true → j < servers_of t = λ j e. masked_below (mask_of t q) (servers_of t) j (s.client q client).mask e in
      gets_carry t (on_keys w q i t).tables q (mask_of t q) (w.number - 1) (servers_of t) t.log (put_all kept q t.clients) rest (few_servers t s) server
      (rw (put-length q kept t.clients) has) rest_long (put-read q kept t.clients state_field _ has refl (omega arith) refl)
      (λ j l. by_equal j i (λ e. ap is_empty (ap (held_on q rest) e ∙ gone)) (λ d. ap is_empty (beside t.links q i j Nothing d) ∙ only-head (all i) all j l d))
      refl refl j l
      (λ e. only-head (all i) all j l (λ z. omega (arith, server j e, few_servers t s, z, eqb-true i coordinator (sym (all i) ∙ used))))

  -- A and B: setpoint and badge of the station are stored; the keys asked for stay
  abbrev got : List Put
  got = put (setpoints_field + i) w.number ∷ put (badges_field + i) w.badge ∷ []

  got-carries : state_of t q ≡ asking_setpoints → Owns (on_got w q i t)
  unfolding on_got
  got-carries state =
      by-test (pending rest q)
      (λ e. rw e (emptied-carries (moved (put_all got q t.clients) rest t) refl (λ j l d full.
      let row = put_skip q got t.clients state_field (λ z. omega arith, (λ z. omega arith, tt)) ∙ state in
      let key = put_skip q got t.clients (asked_field + j) (λ z. omega arith, (λ z. omega arith, tt)) in
      sent_setpoints (moved (put_all got q t.clients) rest t) q j row ∙ ap (λ (n : ℕ). request (key_at_word n) 0) key ∙ sym (sent_setpoints t q j state))))
      (λ e. rw e (ended-carries (ended_read q (tag_of t q) (shown_tags (got_value w q i t) q (mask_of t q)) (got_value w q i t) rest t).tables refl e))

  -- C: the n is stored; what asks all carries nothing
  abbrev told : List Put
  told = put (received_field + i) w.number ∷ []

  all-carries : state_of t q ≡ asking_all → Owns (on_all w q i t)
  unfolding on_all
  all-carries state =
      by-test (pending rest q)
      (λ e. rw e (emptied-carries (moved (put_all told q t.clients) rest t) refl (λ j l d full.
      sent-all (moved (put_all told q t.clients) rest t) q j (put_skip q told t.clients state_field (λ z. omega arith, tt) ∙ state) ∙ sym (sent-all t q j state))))
      (λ e. rw e (ended-carries (ended_by_c (tag_chosen (got_number w q i t) q t) (got_number w q i t) q rest t).tables refl e))

  in_state : {state : ℕ} → state_of t q ≡ state → Owns (on_reply_in state w q i t) → Owns (on_reply_in (state_of t q) w q i t)
  in_state e x = subst (λ (n : ℕ). Owns (on_reply_in n w q i t)) (sym e) x

  -- the link is used, so the state is one of the five
  pub reply-carries : Owns (on_reply_in (state_of t q) w q i t)
  unfolding on_reply_in
  reply-carries =
      by_state (mask_of t q) i (state_of t q) used
      (λ e. in_state e (set_done-carries e))
      (λ e. in_state e (entered-carries e))
      (λ e. in_state e (keys-carries e))
      (λ e. in_state e (got-carries e))
      (λ e. in_state e (all-carries e))

module _ (t : Tables) (s : Sound t) (q i : ℕ) (client : q < clients_of t) (target : i < targets) where
  reply_by : (c : Content) → content_at t q i ≡ c → (j : ℕ) → j < targets → Carried t (on_reply c q i t).tables q j
  reply_by Nothing e j l = still-carries t t (still-same t) q j l
  reply_by (Request w) e j l = still-carries t t (still-same t) q j l
  reply_by (Reply w) e j l = reply-carries t s q i client target w e j l
  reply_by Lost e j l = still-carries t t (still-same t) q j l

  pub replied-carries : (j : ℕ) → j < targets → Carried t (reply_delivered q i t).tables q j
  unfolding reply_delivered
  replied-carries = reply_by (content_at t q i) refl
