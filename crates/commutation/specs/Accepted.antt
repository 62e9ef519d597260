-- The same of `refusals/Steps: deliver_request`, on sound tables: two accepted ones at different targets. It goes by the facts that an
-- accepted delivery has at hand, `Deliverable`.
use Rattle.std.specs.Prelude.{ℕ, zero, suc, ◌<◌, ◌≡◌, refl, true}
use Rattle.std.proofs.Common.{ap, sym, ◌∙◌, arith}
use Rattle.std.proofs.lemmas.Bool.{lt-leb}
use Rattle.tables.specs.Layout.{clients_field, servers_field, last_step}
use Rattle.tables.specs.Tables.{Tables, servers_of, clients_of, step_of, state_of, mask_of, content_at}
use Rattle.tables.specs.Links.{targets}
use Rattle.tables.specs.declared.links.Contents.{Contents}
use Rattle.tables.specs.declared.links.Content.TheVariants.{Request}
use Rattle.rules.specs.Answer.{Ok}
use Rattle.rules.specs.Answers.{Left}
use Rattle.rules.specs.Request.{request_delivered}
use Rattle.soundness.specs.Sound.{uses}
use Rattle.soundness.specs.Facts.{Sound, facts-sound}
use Rattle.refusals.specs.Cases.{delivers}
use Rattle.refusals.specs.Refusals.{delivery_refusal}
use Rattle.refusals.specs.Steps.{unless, deliver_request}
use Rattle.keeping.specs.Accepted.{Deliverable, deliverable, target_below}
use Rattle.keeping.specs.Links.{link-asks, request-kind}
use Rattle.keeping.specs.States.{set-server, get-server, entering-target}
use Rattle.keeping.specs.States as states
use Rattle.keeping.proofs.Steps.{deliver_request-sound}
use Rattle.claim.specs.Steps.{request, requested, run, play}
use Rattle.commutation.specs.Claim.{Swapped}
use Rattle.commutation.specs.Equal.{differ}
use Rattle.commutation.specs.Local.{Asking, AtTarget}

-- On sound tables a request is at its target.
module _ (q i : ℕ) (t : Tables) (s : Sound t) (d : Deliverable q i t) where
  below : i < targets
  below = target_below t s i d.target

  used : (w : Contents) → content_at t q i ≡ Request w → uses (state_of t q) (mask_of t q) i ≡ true
  used w e =
      let asks = link-asks t q i ((s.client q d.client).link i below) in
      let kind = request-kind t.links q i w asks.kind e in
      asks.used (λ z. omega arith)

  asking : (w : Contents) → content_at t q i ≡ Request w → Asking q i t
  asking w e = record {
    set_room = λ z. (s.server i (set-server t s q i d.client below w e z)).held.most;
    get_room = λ z. (s.server i (get-server t s q i d.client below w e z)).held.most;
    enter-target = λ z. entering-target (mask_of t q) i (rw z at (used w e));
    keys-target = λ z. states.keys-target (mask_of t q) i (rw z at (used w e));
  }

  pub at_target : AtTarget q i t
  at_target = record { target = below; asking = asking }

-- a delivery that answers *ok* was stopped by no number
unrefused : (n : ℕ) (x : Left) (t : Tables) → (unless n x t).answer ≡ Ok → n ≡ 0
unrefused zero x t e = refl
unrefused (suc n) x t e = differ (cc)

module _ (q i : ℕ) (t : Tables) where
  pub accepted : (deliver_request q i t).answer ≡ Ok → Deliverable q i t
  unfolding deliver_request
  accepted e = deliverable q i t (unrefused (delivery_refusal q i t) (request_delivered q i t) t e)

  -- and with its facts at hand none stops it
  pub goes_through : Sound t → Deliverable q i t → deliver_request q i t ≡ request_delivered q i t
  unfolding deliver_request delivery_refusal
  goes_through s d =
      rw (facts-sound t s, ← delivers (lt-leb _ _ d.client) d.target (lt-leb _ _ d.early))

-- The facts of a delivery, on tables of the same press.
pub moved : (q i : ℕ) (t t' : Tables) → clients_of t' ≡ clients_of t → servers_of t' ≡ servers_of t → step_of t' < last_step →
    Deliverable q i t → Deliverable q i t'
moved q i t t' clients servers early d =
    record { client = rw clients d.client; target = rw servers d.target; early = early }

-- Two accepted requests at different targets, on sound tables.
module _ (q i r j : ℕ) (t : Tables) (s : Sound t) (apart : i ≡ j → ⊥) where
  -- what stands between the two, in the order that was played and in the other
  abbrev pub u : Tables
  u = (request_delivered q i t).tables

  abbrev pub u' : Tables
  u' = (request_delivered r j t).tables

  module _ (d : Deliverable q i t) (e : (request_delivered q i t).answer ≡ Ok) (su : Sound u) (d' : Deliverable r j u)
      (e' : (request_delivered r j u).answer ≡ Ok) where
    pub here : AtTarget q i t
    here = at_target q i t s d
