-- The claim speaks of the examples, and each of its conditions is needed: with two clients in place of two targets, with neither, or with a
-- reply in place of one of the requests, it is false of the store.
use Rattle.std.specs.Prelude.{ℕ, ◌≡◌, List, [], ◌∷◌}
use Rattle.std.proofs.Common.{ap, sym, ◌∙◌, arith}
use Rattle.tables.specs.Layout.{entry_word}
use Rattle.tables.specs.Tables.{Tables}
use Rattle.rules.specs.Answer.{Ok, Refused}
use Rattle.rules.specs.declared.Arrival.TheVariants as arrival
use Rattle.rules.specs.declared.Delivered.{Delivered}
use Rattle.rules.specs.Answers.{nothing_shown}
use Rattle.claim.specs.Steps.{Step, request, reply, Event, requested, replied, play, run}
use Rattle.claim.specs.Sample.{zeros}
use Rattle.commutation.specs.Claim.{SwapsWhere, Swaps}
use Rattle.commutation.specs.Equal.{differ}
use Rattle.commutation.specs.Examples.{opens, Opened, behind, BothAccepted, enter_and_set, get_log_and_set, two_sets}
use Rattle.commutation.specs.Examples.{two_enters, set_and_reply, reply_and_enter, end_of, examples, differing}

-- what must be said of steps a and b in either order: the answers, the tables, and whatever comes behind
abbrev pub Told : Tables → Step → Step → Type 0
Told t a b =
    let ab = play b (play a t).tables in
    let ba = play a (play b t).tables in
    (((play b t).event ≡ ab.event) × (ba.event ≡ (play a t).event)) ×
    ((ba.tables ≡ ab.tables) × ((rest : List Step) → run play rest ba.tables ≡ run play rest ab.tables))

-- Of each example it says so: of two clients and of one, at the coordinator, by both methods, behind losses.
module _ (claim : Swaps play) where
  pub told : (method : ℕ) → Opened method → (steps : List Step) (q i r j : ℕ) → BothAccepted (behind method steps) q i r j → (i ≡ j → ⊥) →
      Told (behind method steps) (request q i) (request r j)
  told method e steps q i r j x apart =
      let y = claim (opens method) zeros method 2 2 (1200 ∷ 30 ∷ []) e steps (request q i) (request r j) (record {
        client = q;
        target = i;
        client' = r;
        target' = j;
        one = x.one;
        other = x.other;
        apart = apart;
      }) in
      ((y.sooner, y.later), (y.tables, y.behind))

-- two accepted requests of different clients, at any targets
pub record OfDifferentClients (x y : Event) : Type 0 where
  pub client : ℕ
  pub target : ℕ
  pub client' : ℕ
  pub target' : ℕ
  pub one : x ≡ requested client target Ok
  pub other : y ≡ requested client' target' Ok
  pub apart : client ≡ client' → ⊥

-- two accepted requests
pub record AnyTwo (x y : Event) : Type 0 where
  pub client : ℕ
  pub target : ℕ
  pub client' : ℕ
  pub target' : ℕ
  pub one : x ≡ requested client target Ok
  pub other : y ≡ requested client' target' Ok

-- an accepted request and a reply that arrives, at different targets; one way round and the other
abbrev Arrives : Delivered → Type 0
Arrives d = (n : ℕ) → d.arrival ≡ arrival.Refused n → ⊥

pub record RequestThenReply (x y : Event) : Type 0 where
  pub client : ℕ
  pub target : ℕ
  pub client' : ℕ
  pub target' : ℕ
  pub delivered : Delivered
  pub one : x ≡ requested client target Ok
  pub other : y ≡ replied client' target' delivered
  pub arrives : Arrives delivered
  pub apart : target ≡ target' → ⊥

pub record ReplyThenRequest (x y : Event) : Type 0 where
  pub client : ℕ
  pub target : ℕ
  pub client' : ℕ
  pub target' : ℕ
  pub delivered : Delivered
  pub one : x ≡ replied client target delivered
  pub other : y ≡ requested client' target' Ok
  pub arrives : Arrives delivered
  pub apart : target ≡ target' → ⊥

-- Two enters of two clients are accepted in both orders, and the log has the one or the other first.
pub not_by_clients : SwapsWhere OfDifferentClients play → ⊥
not_by_clients claim =
    let x = claim (opens 2) zeros 2 2 2 (1200 ∷ 30 ∷ []) examples.by-B two_enters (request 0 16) (request 1 16) (record {
      client = 0;
      target = 16;
      client' = 1;
      target' = 16;
      one = differing.two-enters.one;
      other = differing.two-enters.other;
      apart = λ e. omega arith;
    }) in
    let same : ◌≡◌ {A = ℕ} 257 256 =
    sym differing.enters-swapped ∙ ap (λ (t : Tables). entry_word t.log 1) x.tables ∙ differing.enters in
    omega arith

-- so the condition cannot be left out
pub not_any-two : SwapsWhere AnyTwo play → ⊥
not_any-two claim =
    not_by_clients (λ first t method k p setpoints e steps a b x. claim first t method k p setpoints e steps a b (record {
      client = x.client;
      target = x.target;
      client' = x.client';
      target' = x.target';
      one = x.one;
      other = x.other;
    }))

-- A reply that ends a WRITE writes the number of the step into its record, which is one less where it comes first.
pub not-request_then-reply : SwapsWhere RequestThenReply play → ⊥
not-request_then-reply claim =
    let x = claim (opens 2) zeros 2 2 2 (1200 ∷ 30 ∷ []) examples.by-B set_and_reply (request 1 0) (reply 0 16) (record {
      client = 1;
      target = 0;
      client' = 0;
      target' = 16;
      delivered = nothing_shown (arrival.Write 1);
      one = differing.set;
      other = differing.replied-behind;
      arrives = λ n e. differ (cc);
      apart = λ e. omega arith;
    }) in
    let same : ◌≡◌ {A = ℕ} 7 8 = sym differing.end-swapped ∙ ap end_of x.tables ∙ differing.end in
    omega arith

-- The last acknowledgement sends the enter, which is refused before it.
pub not-reply_then-request : SwapsWhere ReplyThenRequest play → ⊥
not-reply_then-request claim =
    let x = claim (opens 2) zeros 2 2 2 (1200 ∷ 30 ∷ []) examples.by-B reply_and_enter (reply 0 0) (request 0 16) (record {
      client = 0;
      target = 0;
      client' = 0;
      target' = 16;
      delivered = nothing_shown arrival.Next;
      one = differing.acknowledged;
      other = differing.enter;
      arrives = λ n e. differ (cc);
      apart = λ e. omega arith;
    }) in
    let same : requested 0 16 (Refused 9) ≡ requested 0 16 Ok = sym differing.not-sent ∙ x.sooner ∙ differing.enter in
    differ (cc)
