-- The cases of the scan and of the numbering, as the code meets them.
use Rattle.std.specs.Prelude.{ℕ, ◌+◌, ◌-◌, ◌*◌, ◌/◌, ◌%◌, ◌≤◌, ◌<◌, ◌≡◌, refl, Bool, true, false, ◌&&◌, List, Result, Ok, Err, is_ok, eqb, length, get_or}
use Rattle.std.proofs.Common.{sym, ◌∙◌, ap, arith}
use borrow.Author.Tests.{eq-eqb, ne_eqb, lt-ltb, le-ltb}
use Rattle.causes.specs.declared.Refusal.{Refusal}
use Rattle.causes.specs.declared.Refusal.TheVariants as refusal
use Rattle.causes.specs.Numbers.{fault_of}
use Rattle.ranges.specs.Tests.{by-test}
use Rattle.server.specs.Held.{held_by}
use Rattle.coordinator.specs.Log.{entries_in}
use Rattle.tables.specs.Layout.{server_places, log_places}
use Rattle.tables.specs.Links.{targets, link_at}
use Rattle.tables.specs.Tables.{Tables, servers_of, clients_of, state_of, count_of, content_at}
use Rattle.tables.specs.declared.links.Contents.{Contents}
use Rattle.tables.specs.declared.links.Content.{Content}
use Rattle.tables.specs.declared.links.Content.TheVariants.{Nothing, Request, Reply, Lost}
use Rattle.tables.specs.declared.links.Link.{Link}
use Rattle.rules.specs.Common.{writing, entering, asking_keys, asking_setpoints}
use Rattle.rules.specs.Open.{all_servers}
use Rattle.refusals.specs.Refusals.{write_fault, read_fault, delivery_fault}
use Rattle.schedule.specs.declared.Step.TheVariants as step
use Rattle.workload.specs.declared.LoadStep.{LoadStep}
use Rattle.workload.specs.Next as next
use Rattle.workload.specs.Load.{advance, index_by, load_step, numbered, picked_from}
use Rattle.workload.specs.Accepts.{accepts_write, accepts_read, is_held, is_entered, answers_in, answers_request, accepts_request, takes_reply, accepts_reply, accepts}

-- no fault is found where the tests of a step let it pass; below judged is whether they do
pub none-found : {A : Type 0} (r : Result A Refusal) → is_ok r ≡ eqb (fault_of r) 0
none-found (Ok x) = refl
none-found (Err refusal.NoSuchPress) = refl
none-found (Err refusal.NotSound) = refl
none-found (Err refusal.Absent) = refl
none-found (Err refusal.Retired) = refl
none-found (Err refusal.Busy) = refl
none-found (Err refusal.Unfit) = refl
none-found (Err refusal.Spent) = refl
none-found (Err refusal.Unanswerable) = refl
none-found (Err refusal.NoMessage) = refl
none-found (Err refusal.CutShort) = refl
none-found (Err refusal.Malformed) = refl
none-found (Err refusal.NoRoom) = refl
none-found (Err refusal.Unreadable) = refl
none-found (Err refusal.NothingToLose) = refl
none-found (Err refusal.NothingLost) = refl
none-found (Err refusal.IllMade) = refl

pub found-by : {A : Type 0} (r : Result A Refusal) {b : Bool} {n : ℕ} → b ≡ is_ok r → fault_of r ≡ n → b ≡ eqb n 0
found-by r e f = e ∙ none-found r ∙ rw f

-- a begin
module _ (t : Tables) (q : ℕ) {servers all : ℕ} {judged : Bool} (d : servers ≡ servers_of t) (a : all ≡ all_servers servers) where
  pub by-write : judged ≡ eqb (write_fault q all servers t) 0 → judged ≡ accepts_write t q
  by-write e = e ∙ rw (a, d)

  pub by_read : judged ≡ eqb (read_fault q all t) 0 → judged ≡ accepts_read t q
  by_read e = e ∙ rw (a, d)

-- what a target answers, by the state s
module _ (w : Contents) (counts keys log : List ℕ) (i s : ℕ) where
  -- there is a place, or there is none and the key is looked for
  pub in-writing : {n : ℕ} → s ≡ writing → n ≡ held_by counts i → n < server_places → true ≡ answers_in s w counts keys log i
  unfolding answers_in
  in-writing {n} a e h = rw (eq-eqb s 1 a, ← e, lt-ltb n server_places h)

  pub in-writing-full : {n : ℕ} {r : Bool} → s ≡ writing → n ≡ held_by counts i → server_places ≤ n → r ≡ is_held counts keys i w.key →
      r ≡ answers_in s w counts keys log i
  unfolding answers_in
  in-writing-full {n} a e h f = rw (eq-eqb s 1 a, ← e, le-ltb n server_places h) (f ∙ rw e)

  module _ (a : s ≡ writing → ⊥) where
    pub in-entering : {n : ℕ} → s ≡ entering → n ≡ entries_in counts → n < log_places → true ≡ answers_in s w counts keys log i
    unfolding answers_in
    in-entering {n} b e h = rw (ne_eqb s 1 a, eq-eqb s 2 b, ← e, lt-ltb n log_places h)

    pub in-entering-full : {n : ℕ} {r : Bool} → s ≡ entering → n ≡ entries_in counts → log_places ≤ n → r ≡ is_entered counts log w.key →
        r ≡ answers_in s w counts keys log i
    unfolding answers_in
    in-entering-full {n} b e h f = rw (ne_eqb s 1 a, eq-eqb s 2 b, ← e, le-ltb n log_places h) (f ∙ rw e)

    module _ (b : s ≡ entering → ⊥) where
      pub in_setpoints : {r : Bool} → s ≡ asking_setpoints → r ≡ is_held counts keys i w.key → r ≡ answers_in s w counts keys log i
      unfolding answers_in
      in_setpoints f e =
          let c : s ≡ asking_keys → ⊥ = λ z. omega arith in
          rw (ne_eqb s 1 a, ne_eqb s 2 b, ne_eqb s 3 c, eq-eqb s 4 f) e

      -- any other request can be answered
      pub in-other : (s ≡ asking_setpoints → ⊥) → true ≡ answers_in s w counts keys log i
      unfolding answers_in
      in-other f =
          by-test (eqb s asking_keys)
          (λ e. rw (ne_eqb s 1 a, ne_eqb s 2 b, e))
          (λ e. rw (ne_eqb s 1 a, ne_eqb s 2 b, e, ne_eqb s 4 f))

-- where the link holds no request, or no reply
module _ (judged : Bool) where
  no-request : (c : Content) (state : ℕ) (counts keys log : List ℕ) (i : ℕ) → ((w : Contents) → c ≡ Request w → ⊥) →
      false ≡ answers_request c judged state counts keys log i
  no-request Nothing state counts keys log i other = refl
  no-request (Request w) state counts keys log i other = absurd (other w refl)
  no-request (Reply w) state counts keys log i other = refl
  no-request Lost state counts keys log i other = refl

  no-reply : (c : Content) → ((w : Contents) → c ≡ Reply w → ⊥) → false ≡ takes_reply c judged
  no-reply Nothing other = refl
  no-reply (Request w) other = refl
  no-reply (Reply w) other = absurd (other w refl)
  no-reply Lost other = refl

-- what the link holds; l is what was read of the links
module _ (t : Tables) (q i : ℕ) {l : Link} (d : l ≡ link_at t.links q i) where
  content_is : {c : Content} → l.content ≡ c → content_at t q i ≡ c
  content_is e = ap (λ (k : Link). k.content) (sym d) ∙ e

  pub request-other : ((w : Contents) → l.content ≡ Request w → ⊥) → false ≡ accepts_request t q i
  unfolding accepts_request
  request-other other = rw (content_is refl) (no-request _ l.content _ _ _ _ _ other)

  pub request-judged : {w : Contents} {judged : Bool} {s : ℕ} {r : Bool} → l.content ≡ Request w → judged ≡ eqb (delivery_fault q i t) 0 →
      s ≡ state_of t q → r ≡ (judged && answers_in s w t.counts t.keys t.log i) → r ≡ accepts_request t q i
  unfolding accepts_request
  request-judged e f g h = rw (content_is e, ← f, ← g) h

  pub reply-other : ((w : Contents) → l.content ≡ Reply w → ⊥) → false ≡ accepts_reply t q i
  unfolding accepts_reply
  reply-other other = rw (content_is refl) (no-reply _ l.content other)

  pub reply_there : {w : Contents} {judged : Bool} → l.content ≡ Reply w → judged ≡ eqb (delivery_fault q i t) 0 → judged ≡ accepts_reply t q i
  unfolding accepts_reply
  reply_there e f = rw (content_is e) f

-- by the number of the step; p is how many clients there are, as it was read
module _ (t : Tables) (n : ℕ) {p : ℕ} (d : p ≡ clients_of t) where
  pub at-write : {r : Bool} → n < p → r ≡ accepts_write t n → r ≡ accepts t n
  unfolding accepts
  at-write h e = e ∙ rw (lt-ltb n (clients_of t) (rw d at h))

  pub step-write : {count servers all : ℕ} → n < p → count ≡ count_of t n → servers ≡ servers_of t → all ≡ all_servers servers →
      load_step (step.BeginWrite n all 0) (count + 1) ≡ numbered t n
  unfolding numbered
  step-write h c s a = rw (← d, lt-ltb n p h, a, s, c)

  module _ (a : p ≤ n) where
    pub at_read : {r : Bool} → n < 2 * p → r ≡ accepts_read t (n - p) → r ≡ accepts t n
    unfolding accepts
    at_read h e = e ∙ rw (d, le-ltb n (clients_of t) (rw d at a), lt-ltb n (2 * clients_of t) (rw d at h))

    pub step-read : {servers all : ℕ} → n < 2 * p → servers ≡ servers_of t → all ≡ all_servers servers →
        load_step (step.BeginRead (n - p) all) 0 ≡ numbered t n
    unfolding numbered
    step-read h s f = rw (← d, le-ltb n p a, lt-ltb n (2 * p) h, f, s)

    module _ (b : 2 * p ≤ n) where
      pub at-request : {r : Bool} → n < 19 * p → r ≡ accepts_request t ((n - 2 * p) / targets) ((n - 2 * p) % targets) → r ≡ accepts t n
      unfolding accepts
      at-request h e = rw (← d, le-ltb n p a, le-ltb n (2 * p) b, lt-ltb n (19 * p) h) e

      pub step-request : n < 19 * p → load_step (step.Request ((n - 2 * p) / targets) ((n - 2 * p) % targets)) 0 ≡ numbered t n
      unfolding numbered
      step-request h = rw (← d, le-ltb n p a, le-ltb n (2 * p) b, lt-ltb n (19 * p) h)

      pub at-reply : {r : Bool} → 19 * p ≤ n → r ≡ accepts_reply t ((n - 19 * p) / targets) ((n - 19 * p) % targets) → r ≡ accepts t n
      unfolding accepts
      at-reply h e = rw (← d, le-ltb n p a, le-ltb n (2 * p) b, le-ltb n (19 * p) h) e

      pub step-reply : 19 * p ≤ n → load_step (step.Reply ((n - 19 * p) / targets) ((n - 19 * p) % targets)) 0 ≡ numbered t n
      unfolding numbered
      step-reply h = rw (← d, le-ltb n p a, le-ltb n (2 * p) b, le-ltb n (19 * p) h)

-- a pick among those that pass
module _ (t : Tables) (seed : ℕ) {numbers passed : List ℕ} (f : numbers ≡ passed) where
  pub pick-none : length numbers ≡ 0 → next.End ≡ picked_from passed t seed
  unfolding picked_from
  pick-none z = rw (← f, eq-eqb (length numbers) 0 z)

  pub pick_some : {seed' index : ℕ} {x : LoadStep} → (length numbers ≡ 0 → ⊥) → seed' ≡ advance seed → index ≡ index_by seed' (length numbers) →
      x ≡ numbered t (get_or numbers index 0) → next.Given seed' x ≡ picked_from passed t seed
  unfolding picked_from
  pick_some z e i g = rw (← f, ne_eqb (length numbers) 0 z, ← e, ← i, g)
