-- Of specs/Losses: what cites a theorem there that a changed definition can make fail.
use Rattle.std.specs.Prelude.{ℕ, ◌<◌, ◌≡◌, true}
use Rattle.std.proofs.Math.Path.{refl}
use Rattle.std.proofs.Common.{arith, eq-eqb}
use Rattle.ranges.specs.Tests.{both}
use Rattle.keys.specs.declared.Key.{Key}
use Rattle.keys.specs.Keys.{key_word, key_at_word, opening}
use Rattle.keys.specs.KeyLaws.{key_back}
use Rattle.keys.specs.Masks.{has_server, mask_within, Within}
use Rattle.keys.specs.MaskLaws.{within-test}
use Rattle.tables.specs.Links.{targets}
use Rattle.tables.specs.Tables.{Tables, servers_of, clients_of, state_of, count_of, mask_of, setpoint_of, write_badge_of, asked_of, content_at}
use Rattle.tables.specs.declared.links.Content.{Content}
use Rattle.tables.specs.declared.links.Content.TheVariants.{Nothing, Request, Reply, Lost}
use Rattle.rules.specs.Common.{writing, entering, asking_keys, asking_setpoints, asking_all, request}
use Rattle.rules.specs.Request.{answered_by}
use Rattle.rules.specs.Loss.{on_loss, link_lost, own_key_of, sent_in, on_resend, link_resent}
use Rattle.soundness.specs.Sound.{uses, request_sound, own_key, key_in_range}
use Rattle.soundness.specs.Facts.{Between, ClientFacts, Sound}
use Rattle.soundness.specs.Room.{client-fits}
use Rattle.keeping.specs.Accepted.{Deliverable, target_below}
use Rattle.keeping.specs.Links.{kind_on, request-kind, reply-kind, lost-kind, link-asks}
use Rattle.keeping.specs.States.{by_state, masked-server, own-count, range-below, uses_setpoints, request-writing, request-entering}
use Rattle.keeping.specs.States.{request-keys, request_setpoints, request-all, carried-badge, no-badge}
use Rattle.keeping.specs.Frame.{Kept, kept_same}
use Rattle.keeping.proofs.Placed.{request-placed, lost-placed}
use Rattle.keeping.specs.Losses.{asked_in_range, c, full, own, target, used}

module _ (q i : ℕ) (t : Tables) (s : Sound t) (d : Deliverable q i t) where
  -- A loss, accepted or refused by 14.
  loss_by : (content : Content) → content_at t q i ≡ content → Kept q t (on_loss content q i t).tables
  loss_by Nothing h = kept_same q t s
  loss_by (Request w) h =
      lost-placed q i t s d.client (target q i t s d) d.early (λ e. omega (arith, request-kind t.links q i w ((c q i t s d).link i (target q i t s d)).kind h))
  loss_by (Reply w) h =
      lost-placed q i t s d.client (target q i t s d) d.early (λ e. omega (arith, reply-kind t.links q i w ((c q i t s d).link i (target q i t s d)).kind h))
  loss_by Lost h = kept_same q t s

  pub link_lost-kept : Kept q t (link_lost q i t).tables
  unfolding link_lost
  link_lost-kept = loss_by (content_at t q i) refl

  -- What the client's row gives is what its state sends: of its own WRITE the key, of a server that it asks the key that it keeps.
  module _ (lost : kind_on t q i ≡ 3) where
    -- a request that carries no badge, in a state that is not 1
    sent_unbadged : (state_of t q ≡ writing → ⊥) → (key : Key) (number : ℕ) → request_sound (state_of t q) q (key_word key) number t ≡ true →
        Kept q t (answered_by (request key number) q i t).tables
    sent_unbadged n key number good =
        request-placed q i t s d.client (target q i t s d) d.early (full q i t s d lost) key 0 number good (no-badge writing (state_of t q) 0 n)

    resent-set : state_of t q ≡ writing → Kept q t (answered_by (sent_in writing q i t) q i t).tables
    unfolding sent_in
    resent-set e =
        request-placed q i t s d.client (target q i t s d) d.early (full q i t s d lost) (own_key_of t q) (write_badge_of t q) (setpoint_of t q i)
        (rw (e, request-writing) (own q i t s d lost (rw e at (c q i t s d).count))) (carried-badge writing (state_of t q) (write_badge_of t q) (c q i t s d).badge)

    resent-enter : state_of t q ≡ entering → Kept q t (answered_by (sent_in entering q i t) q i t).tables
    unfolding sent_in
    resent-enter e =
        let masked : Within (mask_of t q) (servers_of t) = record { some = (c q i t s d).masked (λ z. omega (arith, e)); below = (c q i t s d).mask } in
        sent_unbadged (λ z. omega (arith, e)) (own_key_of t q) (mask_of t q)
        (rw (e, request-entering) (both (own_key q (key_word (own_key_of t q))) (mask_within (mask_of t q) (servers_of t))
        (own q i t s d lost (rw e at (c q i t s d).count)) (within-test (mask_of t q) (servers_of t) masked)))

    resent-get : state_of t q ≡ asking_setpoints → Kept q t (answered_by (sent_in asking_setpoints q i t) q i t).tables
    unfolding sent_in
    resent-get e =
        let good = asked_in_range q i t s d lost e in
        sent_unbadged (λ z. omega (arith, e)) (key_at_word (asked_of t q i)) 0
        (rw (e, request_setpoints, key_back (asked_of t q i) (range-below (clients_of t) (asked_of t q i) good)) good)

    -- which keys, get all, get log
    resent-keys : state_of t q ≡ asking_keys → Kept q t (answered_by (sent_in asking_keys q i t) q i t).tables
    unfolding sent_in
    resent-keys e = sent_unbadged (λ z. omega (arith, e)) opening 0 (rw e (request-keys t q 0 0))

    resent-all : state_of t q ≡ asking_all → Kept q t (answered_by (sent_in asking_all q i t) q i t).tables
    unfolding sent_in
    resent-all e = sent_unbadged (λ z. omega (arith, e)) opening 0 (rw e (request-all t q 0 0))

    resent : Kept q t (answered_by (sent_in (state_of t q) q i t) q i t).tables
    resent =
        by_state (mask_of t q) i (state_of t q) (used q i t s d lost)
        (λ e. rw e (resent-set e))
        (λ e. rw e (resent-enter e))
        (λ e. rw e (resent-keys e))
        (λ e. rw e (resent-get e))
        (λ e. rw e (resent-all e))

  -- A resend, accepted or refused by 15.
  resend_by : (content : Content) → content_at t q i ≡ content → Kept q t (on_resend content q i t).tables
  resend_by Nothing h = kept_same q t s
  resend_by (Request w) h = kept_same q t s
  resend_by (Reply w) h = kept_same q t s
  resend_by Lost h = resent (lost-kind t.links q i ((c q i t s d).link i (target q i t s d)).kind h)

  pub link_resent-kept : Kept q t (link_resent q i t).tables
  unfolding link_resent
  link_resent-kept = resend_by (content_at t q i) refl
