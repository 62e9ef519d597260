-- Of specs/Requests: what cites a theorem there that a changed definition can make fail.
use Rattle.std.specs.Prelude.{ℕ, ◌+◌, ◌≤◌, ◌≡◌, set, leb, ltb}
use Rattle.std.proofs.Math.Path.{refl}
use Rattle.std.proofs.Common.{subst}
use Rattle.std.proofs.Math.Bool.{true}
use native.Mathlib.Omega.{arith}
use borrow.Author.Tests.{ltb-true, lt-ltb, le-leb, eqb-true}
use Rattle.ranges.specs.Tests.{by-test, by_equal, both, both_left, both_right}
use Rattle.ranges.specs.FirstLaws.{first_found}
use Rattle.keys.specs.Keys.{key_word}
use Rattle.keys.specs.KeyLaws.{key_back}
use Rattle.keys.specs.Masks.{mask_within}
use Rattle.keys.specs.MaskLaws.{within-true}
use Rattle.tables.specs.Layout.{version_badge, version_setpoint, entries_field, server_places, log_places, entry_word, put_entry}
use Rattle.tables.specs.Tables.{Tables, servers_of, clients_of, entries_of, held_of, state_of, mask_of, content_at}
use Rattle.tables.specs.declared.links.Contents.{Contents}
use Rattle.tables.specs.declared.links.Content.{Content}
use Rattle.tables.specs.declared.links.Content.TheVariants.{Nothing, Request, Reply, Lost}
use Rattle.server.specs.Held.{stored, appended, first_bearing, holds}
use Rattle.coordinator.specs.Log.{entered, enter_left, entry_bears, first_entry, has_key}
use Rattle.rules.specs.Common.{writing, entering, asking_keys, asking_setpoints, asking_all}
use Rattle.rules.specs.Request.{answered, stored_by, entered_by, on_set, on_new_set, on_enter, on_new_enter, on_which_keys, on_get, on_get_all}
use Rattle.rules.specs.Request.{on_request_in, on_request, request_delivered}
use Rattle.soundness.specs.Sound.{uses, reply_sound, holding, key_on, own_key, key_in_range}
use Rattle.soundness.specs.Facts.{facts-between, ClientFacts, Sound}
use Rattle.keeping.specs.Accepted.{Deliverable, target_below, holding-some}
use Rattle.keeping.specs.Links.{kind_on, number_on, badge_on, contents_on, LinkAsks, request-kind, request-words, link-asks}
use Rattle.keeping.specs.States.{by_state, keys-target, masked-server, holding-log, own_key_lem, own_in_range, uses-writing}
use Rattle.keeping.specs.States.{request-writing, request-entering, reply-writing, reply-entering, reply-keys, reply_setpoints}
use Rattle.keeping.specs.States.{reply-all, uses_setpoints, badge-carried, carried-badge}
use Rattle.keeping.proofs.Frame.{kept_then}
use Rattle.keeping.specs.Frame.{Kept, kept_same}
use Rattle.keeping.proofs.Placed.{reply-placed}
use Rattle.keeping.proofs.Appends.{stored-kept, entered-kept}
use Rattle.keeping.specs.Appends.{stored_step, entered_step, entry_more}
use Rattle.keeping.specs.Requests.{asks, entering_key, first-tag, own, used, w}

-- The delivery, by the state of the client. The request's words are those of the link.
module _ (q i : ℕ) (t : Tables) (s : Sound t) (d : Deliverable q i t) (asked : kind_on t q i ≡ 1) where
  reply_in : (number : ℕ) → reply_sound (state_of t q) i number t ≡ true → Kept q t (answered q i number t).tables
  reply_in number good =
      reply-placed q i t s d.client (target_below t s i d.target) d.early (λ e. omega arith) 0 number good
      (carried-badge asking_setpoints (state_of t q) 0 (omega arith))

  set_new : state_of t q ≡ writing → Kept q t (on_new_set (w q i t s d asked) q i t).tables
  unfolding on_new_set appended
  set_new e =
      let server = masked-server t s q i d.client (rw (e, uses-writing) at (used q i t s d asked)) in
      let good = own q i t s d asked (rw (e, request-writing) at ((asks q i t s d asked).request asked)) in
      let small = badge-carried writing (state_of t q) (badge_on t q i) e ((asks q i t s d asked).set-badge asked) in
      by-test (ltb (held_of t i) server_places)
      (λ b.
      let room = ltb-true _ _ b in
      let after = stored_by (stored t.counts t.keys t.values i (w q i t s d asked).key (w q i t s d asked).badge (w q i t s d asked).number) t in
      let k = stored-kept q i (w q i t s d asked).key (w q i t s d asked).badge (w q i t s d asked).number t s d.client server room good small in
      let step = stored_step q i (w q i t s d asked).key (w q i t s d asked).badge (w q i t s d asked).number t s d.client server room good small in
      rw b (kept_then q t after (answered q i 0 after).tables s k
      (reply-placed q i after k.sound (rw k.grows.numbers.clients d.client) (target_below t s i d.target) (rw step d.early)
      (λ z. omega (arith, asked)) 0 0 (rw e (reply-writing after i 0)) (carried-badge asking_setpoints (state_of after q) 0 (omega arith)))))
      (λ b. rw b (kept_same q t s))

  -- "A station that holds the key already acknowledges without storing"
  set-delivered : state_of t q ≡ writing → Kept q t (on_set (w q i t s d asked) q i t).tables
  unfolding on_set
  set-delivered e =
      by-test (holds t.keys i (w q i t s d asked).key (held_of t i))
      (λ b. rw b (reply_in 0 (rw e (reply-writing t i 0))))
      (λ b. rw b (set_new e))

  enter-new : state_of t q ≡ entering → Kept q t (on_new_enter (w q i t s d asked) q i t).tables
  unfolding on_new_enter entered
  enter-new e =
      let r = rw (e, request-entering) at ((asks q i t s d asked).request asked) in
      let good = own q i t s d asked (entering_key q i t s d asked e) in
      let mask = within-true _ _ (both_right (own_key q (key_on t q i)) (mask_within (number_on t q i) (servers_of t)) r) in
      by-test (ltb (entries_of t) log_places)
      (λ b.
      let room = ltb-true _ _ b in
      let k = entered-kept q (w q i t s d asked).key (w q i t s d asked).number t s d.client room good mask in
      let step = entered_step q (w q i t s d asked).key (w q i t s d asked).number t s d.client room good mask in
      let more = entry_more q (w q i t s d asked).key (w q i t s d asked).number t s d.client room good mask in
      let longer = enter_left true (set t.counts entries_field (entries_of t + 1)) (put_entry t.log (entries_of t) (w q i t s d asked).key (w q i t s d asked).number) in
      let after = entered_by longer q t in
      let tagged : reply_sound (state_of after q) i (entries_of t) after ≡ true =
      rw (e, reply-entering after i (entries_of t)) (both (leb 1 (entries_of t)) (ltb (entries_of t) (entries_of after)) (le-leb _ _ s.scalars.entries.least) (lt-ltb (entries_of t) (entries_of after) (rw more (omega arith)))) in
      rw b (kept_then q t after (answered q i (entries_of t) after).tables s k
      (reply-placed q i after k.sound (rw k.grows.numbers.clients d.client) (target_below t s i d.target) (rw step d.early)
      (λ z. omega (arith, asked)) 0 (entries_of t) tagged (carried-badge asking_setpoints (state_of after q) 0 (omega arith)))))
      (λ b. rw b (kept_same q t s))

  enter-delivered : state_of t q ≡ entering → Kept q t (on_enter (w q i t s d asked) q i t).tables
  unfolding on_enter
  enter-delivered e =
      let tag = first_entry t.log (w q i t s d asked).key (entries_of t) in
      by-test (has_key t.log (w q i t s d asked).key (entries_of t))
      (λ b. rw b (reply_in tag
      (rw (e, reply-entering t i tag) (both (leb 1 tag) (ltb tag (entries_of t)) (le-leb _ _ (first-tag q i t s d asked e b)) b))))
      (λ b. rw b (enter-new e))

  keys-delivered : state_of t q ≡ asking_keys → Kept q t (on_which_keys q i t).tables
  unfolding on_which_keys
  keys-delivered e =
      let all = holding-log t i (keys-target (mask_of t q) i (rw e at (used q i t s d asked))) in
      reply_in (entries_of t) (rw (e, reply-keys t i (entries_of t)) (facts-between 1 (entries_of t) (holding t i) (record { least = s.scalars.entries.least; most = omega arith })))

  get-delivered : state_of t q ≡ asking_setpoints → Kept q t (on_get (w q i t s d asked) q i t).tables
  unfolding on_get
  get-delivered e =
      by-test (ltb (first_bearing t.keys i (w q i t s d asked).key (held_of t i)) (held_of t i))
      (λ b.
      let place = first_bearing t.keys i (w q i t s d asked).key (held_of t i) in
      let small = (s.server i (masked-server t s q i d.client (rw (e, uses_setpoints) at (used q i t s d asked)))).badge place (ltb-true _ _ b) in
      rw b (reply-placed q i t s d.client (target_below t s i d.target) d.early (λ z. omega (arith, asked))
      (version_badge t.values i place) (version_setpoint t.values i place) (rw e (reply_setpoints t i _))
      (carried-badge asking_setpoints (state_of t q) _ small)))
      (λ b. rw b (kept_same q t s))

  all-delivered : state_of t q ≡ asking_all → Kept q t (on_get_all q i t).tables
  unfolding on_get_all
  all-delivered e = reply_in (holding t i) (rw (e, reply-all t i (holding t i)) (facts-between 1 (holding t i) (holding t i) (record { least = holding-some t s i d.target; most = omega arith })))

  in_state : Kept q t (on_request_in (state_of t q) (w q i t s d asked) q i t).tables
  unfolding on_request_in
  in_state =
      by_state (mask_of t q) i (state_of t q) (used q i t s d asked)
      (λ e. rw e (set-delivered e))
      (λ e. rw e (enter-delivered e))
      (λ e. rw e (keys-delivered e))
      (λ e. rw e (get-delivered e))
      (λ e. rw e (all-delivered e))

-- The delivery of a request, accepted or refused by 8 or 9, leaves sound tables.
module _ (q i : ℕ) (t : Tables) (s : Sound t) (d : Deliverable q i t) where
  by_content : (c : Content) → content_at t q i ≡ c → Kept q t (on_request c q i t).tables
  by_content Nothing h = kept_same q t s
  by_content (Request w) h =
      let kind = ((s.client q d.client).link i (target_below t s i d.target)).kind in
      subst (λ (w : Contents). Kept q t (on_request_in (state_of t q) w q i t).tables) (request-words t.links q i w kind h) (in_state q i t s d (request-kind t.links q i w kind h))
  by_content (Reply w) h = kept_same q t s
  by_content Lost h = kept_same q t s

  pub request_delivered-kept : Kept q t (request_delivered q i t).tables
  unfolding request_delivered
  request_delivered-kept = by_content (content_at t q i) refl
