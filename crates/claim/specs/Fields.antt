-- The fields of the claim, one by one, real time by kind of pair; and a test of each, which decides it for what was played.
use Rattle.std.specs.Prelude.{ℕ, zero, suc, ◌+◌, ◌^◌, ◌≤◌, ◌<◌, ◌≡◌, refl, Bool, true, false, List, [], ◌∷◌, length, ltb}
use Rattle.std.proofs.Common.{sym, ap, ap₂, subst, ◌∙◌, arith, ltb-true, ltb-false, ne_eqb}
use Rattle.std.proofs.Math.Option.{Option, none, some, none-ne-some, some-injective}
use Rattle.std.proofs.Math.Nat.{pow-succ'}
use Rattle.ranges.specs.Tests.{either, by-test, not-both}
use Rattle.ranges.specs.Each.{Each}
use Rattle.keys.specs.Masks.{has_server}
use Rattle.keys.specs.MaskLaws.{no-server}
use Rattle.tables.specs.declared.links.Content.{Content}
use Rattle.tables.specs.declared.links.Content.TheVariants.{Nothing, Request, Reply, Lost}
use Rattle.tables.specs.Tables.{Tables, content_at}
use Rattle.rules.specs.Answer.{Answer}
use Rattle.rules.specs.Answer as answer
use Rattle.rules.specs.declared.Arrival.{Arrival}
use Rattle.rules.specs.declared.Arrival.TheVariants as arrival
use Rattle.rules.specs.declared.Delivered.{Delivered}
use Rattle.claim.specs.Steps.{Event, opened, begun-write, begun-read, requested, replied, lost, resent, Played}
use Rattle.claim.specs.History.{Value, value_of, Transaction, Doing, nothing, writing, tagged, reading, History, changed}
use Rattle.claim.specs.History.{begun, delivered, entered, wrote, showed, arrived, missed, repeated, opened_with, at_coordinator}
use Rattle.claim.specs.History.{after, history}
use Rattle.claim.specs.Row.{row, walked, Shows, Walk, at, RealTime}
use Rattle.claim.specs.Claim.{enough, EndsAt, Unfinished, IsReply, LeavesReply, AnswersAt, Answers, Claim}
use Rattle.claim.specs.Decided.{Test, always, never, meaning, both, only_if, each, below, equal, most, less, is}

-- the claim's fields; real time by the kind of the later beside that of the earlier
pub data Field : Type 0 where
  walk whole complete : Field
  read_after_read write_after_read read_after_write write_after_write : Field
  answered ends unfinished tags whose : Field

-- real time of the pairs whose earlier and later are of these kinds
abbrev pub RealTimeOf : Bool → Bool → List Transaction → Type 0
RealTimeOf earlier later row =
    (m : ℕ) → m < length row → (n : ℕ) → n < length row → (at row m).is_write ≡ earlier → (at row n).is_write ≡ later →
    (end : ℕ) → (at row m).end ≡ some end → end < (at row n).begin → m < n

-- what the claim says in a field
abbrev pub Says : Field → List Played → History → Type 0
Says walk steps h = Walk h.initial (row h)
Says whole steps h = Each (λ x. x.tag ≤ h.tags) h.reads
Says complete steps h = length (row h) ≡ h.tags + length h.reads
Says read_after_read steps h = RealTimeOf false false (row h)
Says write_after_read steps h = RealTimeOf false true (row h)
Says read_after_write steps h = RealTimeOf true false (row h)
Says write_after_write steps h = RealTimeOf true true (row h)
Says answered steps h = Each Answers steps
Says ends steps h = Each (EndsAt h.extra) (row h)
Says unfinished steps h = (q : ℕ) → Unfinished h.extra (h.doing q)
Says tags steps h = (tag answer : ℕ) → 1 ≤ tag → tag ≤ h.tags → h.said tag ≡ some answer → answer ≡ tag
Says whose steps h = h.astray ≡ 0

-- The claim is its fields: it says each of them, and no more.
module _ (steps : List Played) (h : History) where
  pub in_time_lem : RealTime (row h) → (earlier later : Bool) → RealTimeOf earlier later (row h)
  in_time_lem r earlier later m lm n ln em en end e l = r m n end lm ln e l

  pub says_claim : ((f : Field) → Says f steps h) → Claim steps h
  says_claim s = record {
    walk = s walk;
    whole = s whole;
    complete = s complete;
    real_time = λ m n end lm ln e l.
        let x = at (row h) m in
        let y = at (row h) n in
        by-test x.is_write
        (λ a. by-test y.is_write
        (λ b. s write_after_write m lm n ln a b end e l)
        (λ b. s read_after_write m lm n ln a b end e l))
        (λ a. by-test y.is_write
        (λ b. s write_after_read m lm n ln a b end e l)
        (λ b. s read_after_read m lm n ln a b end e l));
    answered = s answered;
    ends = s ends;
    unfinished = s unfinished;
    tags = s tags;
    whose = s whose;
  }

-- ---- the walk: a mask has no server at its own number or beyond

small : (n : ℕ) → n < 2 ^ n
small zero = omega arith
small (suc n) = rw (pow-succ' 2 n) (omega (arith, small n))

pub in-mask : (mask i : ℕ) → has_server mask i ≡ true → i < mask
in-mask mask i e =
    by-test (ltb i mask)
    (λ b. ltb-true i mask b)
    (λ b. absurd (not-both e (no-server mask mask i (small mask) (ltb-false i mask b))))

-- two values are the same where each part is
pub value_same : {s s' t t' b b' : ℕ} → s ≡ s' → t ≡ t' → b ≡ b' → value_of s t b ≡ value_of s' t' b'
value_same e f g = rw (e, f, g)

abbrev same_value : (v w : Value) → Test (v ≡ w)
same_value v w =
    meaning (both (equal v.setpoint w.setpoint) (both (equal v.tag w.tag) (equal v.badge w.badge)))
    (λ e. value_same e.0 e.1.0 e.1.1)
    (λ e. (ap (λ (u : Value). u.setpoint) e, (ap (λ (u : Value). u.tag) e, ap (λ (u : Value). u.badge) e)))

abbrev shows : (values : ℕ → Value) (x : Transaction) → Test (Shows values x)
shows values x =
    only_if (is false x.is_write)
    (meaning (below (λ i. only_if (is true (has_server x.mask i)) (same_value (x.value i) (values i))) x.mask)
    (λ f i s. f i (in-mask x.mask i s) s)
    (λ f i l s. f i s))

abbrev pub walks : (values : ℕ → Value) (xs : List Transaction) → Test (Walk values xs)
walks values [] = always tt
walks values (x ∷ xs) = both (shows values x) (walks (walked values x) xs)

-- ---- real time

-- an end that is before a begin is the end of one that stands ahead
abbrev ahead : (o : Option ℕ) (begin m n : ℕ) → Test ((end : ℕ) → o ≡ some end → end < begin → m < n)
ahead none begin m n = always (λ end e. absurd (none-ne-some end e))
ahead (some d) begin m n =
    meaning (only_if (less d begin) (less m n))
    (λ f end e l. let z = some-injective d end e in f (omega arith))
    (λ f l. f d refl l)

abbrev pub in_time : (earlier later : Bool) (xs : List Transaction) → Test (RealTimeOf earlier later xs)
in_time earlier later xs =
    below (λ m. below (λ n.
    only_if (is earlier (at xs m).is_write) (only_if (is later (at xs n).is_write) (ahead (at xs m).end (at xs n).begin m n)))
    (length xs))
    (length xs)

-- ---- answers, ends, tags

abbrev is_reply : (content : Content) → Test (IsReply content)
is_reply Nothing = never (λ z. z)
is_reply (Request w) = never (λ z. z)
is_reply (Reply w) = always tt
is_reply Lost = never (λ z. z)

abbrev leaves_reply : (a : Answer) (content : Content) → Test (LeavesReply a content)
leaves_reply answer.Ok content = is_reply content
leaves_reply (answer.Refused n) content = always tt

abbrev pub answers_at : (e : Event) (t : Tables) → Test (AnswersAt e t)
answers_at (opened method k p setpoints a) t = always tt
answers_at (begun-write q mask badge setpoints a) t = always tt
answers_at (begun-read q mask a) t = always tt
answers_at (requested q i a) t = leaves_reply a (content_at t q i)
answers_at (replied q i d) t = always tt
answers_at (lost q i a) t = always tt
answers_at (resent q i a) t = always tt

abbrev pub is_unfinished : (extra : ℕ) (d : Doing) → Test (Unfinished extra d)
is_unfinished extra nothing = always tt
is_unfinished extra (writing mask badge setpoints begin) = always tt
is_unfinished extra (tagged tag) = always tt
is_unfinished extra (reading mask begin deliveries losses) = less deliveries (enough extra mask losses)

abbrev pub says_tag : (o : Option ℕ) (tag : ℕ) → Test ((a : ℕ) → o ≡ some a → a ≡ tag)
says_tag none tag = always (λ a e. absurd (none-ne-some a e))
says_tag (some b) tag = meaning (equal b tag) (λ e a f. sym (some-injective b a f) ∙ e) (λ f. f b refl)

-- ---- a client that no step names is at nothing

abbrev pub client_of : Event → ℕ
client_of (opened method k p setpoints a) = 0
client_of (begun-write q mask badge setpoints a) = q
client_of (begun-read q mask a) = q
client_of (requested q i a) = q
client_of (replied q i d) = q
client_of (lost q i a) = q
client_of (resent q i a) = q

-- every client that a step names is below this
abbrev pub clients_below : List Played → ℕ
clients_below [] = 0
clients_below (x ∷ xs) = suc (client_of x.event) + clients_below xs

module _ (j : ℕ) where
  abbrev pub Idle : History → Type 0
  Idle h = h.doing j ≡ nothing

  module _ (h : History) (idle : Idle h) (q : ℕ) (d : j ≡ q → ⊥) where
    others : (x : Doing) → changed h.doing q x j ≡ nothing
    unfolding changed
    others x = rw (ne_eqb j q d) idle

    pub begun-idle : (c x : Doing) → Idle (begun c q x h)
    begun-idle nothing x = others x
    begun-idle (writing mask badge setpoints begin) x = idle
    begun-idle (tagged tag) x = idle
    begun-idle (reading mask begin deliveries losses) x = idle

    pub delivered-idle : (c : Doing) → Idle (delivered c q h)
    delivered-idle nothing = idle
    delivered-idle (writing mask badge setpoints begin) = idle
    delivered-idle (tagged tag) = idle
    delivered-idle (reading mask begin deliveries losses) = others _

    pub entered-idle : (c : Doing) → Idle (entered c q h)
    entered-idle nothing = idle
    entered-idle (writing mask badge setpoints begin) = others _
    entered-idle (tagged tag) = idle
    entered-idle (reading mask begin deliveries losses) = others _

    wrote-idle : (a : ℕ) (c : Doing) → Idle (wrote a c q h)
    wrote-idle a nothing = idle
    wrote-idle a (writing mask badge setpoints begin) = idle
    wrote-idle a (tagged tag) = others _
    wrote-idle a (reading mask begin deliveries losses) = idle

    showed-idle : (tag : ℕ) (s : Delivered) (c : Doing) → Idle (showed tag s c q h)
    showed-idle tag s nothing = idle
    showed-idle tag s (writing mask badge setpoints begin) = idle
    showed-idle tag s (tagged t) = idle
    showed-idle tag s (reading mask begin deliveries losses) = others _

    pub arrived-idle : (a : Arrival) (s : Delivered) (i : ℕ) → Idle (arrived a s q i h)
    arrived-idle arrival.Wait s i = delivered-idle (h.doing q)
    arrived-idle arrival.Next s i = delivered-idle (h.doing q)
    arrived-idle (arrival.Write tag) s i = wrote-idle tag (h.doing q)
    arrived-idle (arrival.Read tag) s i = showed-idle tag s (h.doing q)
    arrived-idle (arrival.Refused n) s i = idle

    pub missed-idle : (reply : Bool) (c : Doing) → Idle (missed reply c q h)
    missed-idle reply nothing = idle
    missed-idle reply (writing mask badge setpoints begin) = idle
    missed-idle reply (tagged tag) = idle
    missed-idle reply (reading mask begin deliveries losses) = others _

    pub repeated-idle : (c : Doing) → Idle (repeated c h)
    repeated-idle nothing = idle
    repeated-idle (writing mask badge setpoints begin) = idle
    repeated-idle (tagged tag) = idle
    repeated-idle (reading mask begin deliveries losses) = idle

module _ (method : ℕ) (setpoints : List ℕ) (steps : List Played) where
  abbrev pub here : History
  here = history steps (opened_with method setpoints)

  pub every-tag : ((t : ℕ) → t < here.tags → (a : ℕ) → here.said (suc t) ≡ some a → a ≡ suc t) → Says tags steps here
  every-tag f zero a l u e = let z : ⊥ = omega arith in absurd z
  every-tag f (suc t) a l u e = f t (omega arith) a e
