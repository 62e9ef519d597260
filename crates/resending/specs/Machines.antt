-- Any machine whose every step carries what was sent sends it again: the one induction over lists of steps.
use Rattle.std.specs.Prelude.{ℕ, ◌<◌, ◌≡◌, true, false, List, [], ◌∷◌}
use Rattle.std.proofs.Common.{sym, ap, ◌∙◌, subst}
use Rattle.ranges.specs.Tests.{by-test, not-both}
use Rattle.tables.specs.Links.{targets, is_empty}
use Rattle.tables.specs.Tables.{Tables, clients_of, content_at}
use Rattle.tables.specs.declared.links.Content.{Content}
use Rattle.tables.specs.declared.links.Content.TheVariants.{Nothing}
use Rattle.rules.specs.Answer.{Answer}
use Rattle.rules.specs.Answer.{Ok, Refused}
use Rattle.rules.specs.Loss.{sent_by}
use Rattle.soundness.specs.Facts.{Sound}
use Rattle.claim.specs.Steps.{Event, opened, begun-write, begun-read, requested, replied, lost, resent, Played, Machine, run}
use Rattle.claim.specs.History.{History, opened_with}
use Rattle.serial.proofs.Openings.{Starts}
use Rattle.resending.specs.Claim.{sent_after, Again, RepeatsAt, Repeats, SendsAgain}
use Rattle.resending.specs.Carried.{Carried}

-- An accepted resend, on a link that is there and was not empty, leaves what the row gave.
pub record Sent (t t' : Tables) (q i : ℕ) : Type 0 where
  pub client : q < clients_of t
  pub target : i < targets
  pub full : is_empty (content_at t q i) ≡ false
  pub now : content_at t' q i ≡ sent_by q i t

abbrev pub SentIf : Answer → Tables → Tables → ℕ → ℕ → Type 0
SentIf Ok t t' q i = Sent t t' q i
SentIf (Refused n) t t' q i = Unit {0}

abbrev pub SentAt : Event → Tables → Tables → Type 0
SentAt (opened method k p setpoints answer) t t' = Unit {0}
SentAt (begun-write q mask badge setpoints answer) t t' = Unit {0}
SentAt (begun-read q mask answer) t t' = Unit {0}
SentAt (requested q i answer) t t' = Unit {0}
SentAt (replied q i d) t t' = Unit {0}
SentAt (lost q i answer) t t' = Unit {0}
SentAt (resent q i answer) t t' = SentIf answer t t' q i

-- What a step must keep: sound tables, what the rows give, and what it sends again.
pub record Carries (t : Tables) (x : Played) : Type 0 where
  pub sound : Sound x.tables
  pub clients : (q i : ℕ) → q < clients_of x.tables → i < targets → (is_empty (content_at x.tables q i) ≡ false → q < clients_of t) × Carried t x.tables q i
  pub sent : SentAt x.event t x.tables

-- Tables that an accepted opening left: all links are empty.
pub record Started (h : History) (t : Tables) : Type 0 where
  pub sound : Sound t
  pub empty : (q i : ℕ) → q < clients_of t → i < targets → is_empty (content_at t q i) ≡ true

pub record Carrying {S : Type 0} (machine : Machine S) : Type 0 where
  pub starts : (step : S) (t : Tables) → Starts Started (machine step t).event (machine step t).tables
  pub carries : (step : S) (t : Tables) → Sound t → Carries t (machine step t)

-- the row gives what the link was first sent, while it is not empty
abbrev pub Given : Tables → ℕ → ℕ → Content → Type 0
Given t q i sent = q < clients_of t → i < targets → is_empty (content_at t q i) ≡ false → sent_by q i t ≡ sent

module _ (t : Tables) (q i : ℕ) (sent : Content) (g : Given t q i sent) where
  again : (a : Answer) (t' : Tables) (p j : ℕ) → SentIf a t t' p j → Again a p j q i (content_at t' q i) sent
  again Ok t' p j s = λ d e.
      let x : Sent t t' q i = subst (λ (n : ℕ). Sent t t' n i) d (subst (λ (n : ℕ). Sent t t' p n) e s) in
      x.now ∙ g x.client x.target x.full
  again (Refused n) t' p j s = tt

  pub at_event : (e : Event) (t' : Tables) → SentAt e t t' → RepeatsAt e q i (content_at t' q i) sent
  at_event (opened method k p setpoints answer) t' s = tt
  at_event (begun-write p mask badge setpoints answer) t' s = tt
  at_event (begun-read p mask answer) t' s = tt
  at_event (requested p j answer) t' s = tt
  at_event (replied p j d) t' s = tt
  at_event (lost p j answer) t' s = tt
  at_event (resent p j answer) t' s = again answer t' p j s

  pub given-after : (x : Played) → Carries t x → Given x.tables q i (sent_after (content_at t q i) (content_at x.tables q i) sent)
  given-after x c l m full =
      let k = c.clients q i l m in
      by-test (is_empty (content_at t q i))
      (λ e. rw e (rw e at (k.1 full)))
      (λ e. rw e ((rw e at (k.1 full)) ∙ g (k.0 full) m e))
