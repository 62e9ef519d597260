-- A step that pays what it owes keeps what is true of a history.
use Prim.Native.Nat.{ℕ, zero, suc, ◌≤◌, ◌<◌}
use mathlib.Core.Path.{◌≡◌, refl, sym, ap, ◌∙◌}
use mathlib.Core.Bool.{Bool, true, false, cond, false≢true}
use mathlib.Core.Option.{none, some, none-ne-some, some-injective}
use mathlib.Core.List.{List}
use native.Mathlib.Omega.{arith}
use Rattle.ranges.specs.Tests.{by_equal}
use Rattle.ranges.specs.Each.{each_map}
use Rattle.ranges.specs.InsertedLaws.{each-inserted}
use Rattle.rules.specs.Answer.{Ok, Refused}
use Rattle.rules.specs.declared.Arrival.{Arrival}
use Rattle.rules.specs.declared.Arrival.TheVariants as arrival
use Rattle.rules.specs.declared.Delivered.{Delivered}
use Rattle.claim.specs.Steps.{Event, opened, begun-write, begun-read, requested, replied, lost, resent}
use Rattle.refusals.specs.Steps.{badge_of}
use Rattle.claim.specs.History.{Value, value_opened, value_written, changed, Transaction, Doing, nothing, writing}
use Rattle.claim.specs.History.{tagged, reading, History, history_of, passed, turned, begun, delivered, write_of, given, entered}
use Rattle.claim.specs.History.{ended, wrote, showed, marked, arrived, lost_of, missed, repeated, fresh, extra_of, at_coordinator}
use Rattle.claim.specs.History.{after}
use Rattle.claim.specs.Claim.{EndsAt, Unfinished}
use Rattle.serial.proofs.Places.{changed-same, changed_other, changed-all, changed-both}
use Rattle.serial.proofs.Lists.{pairs-inserted}
use Rattle.serial.proofs.Owed.{value_at, More, Busy, OwedRead, OwedArrival, Owed, floor_after}
use Rattle.serial.proofs.HistoryOk.{Timed, Rising, DoingOk, NoLater, Shown, WriteOk, HistoryOk}

-- Values behind a tag go by masks and values of the WRITEs up to it.
pub value_same : (initial : ℕ → Value) (f g : ℕ → Transaction) (n : ℕ) →
    ((t : ℕ) → t ≤ n → ((f t).mask ≡ (g t).mask) × ((f t).value ≡ (g t).value)) →
    (t : ℕ) → t ≤ n → (i : ℕ) → value_at initial f t i ≡ value_at initial g t i
unfolding value_at
value_same initial f g n e zero l i = refl
value_same initial f g n e (suc t) l i =
    rw ((e (suc t) l).0, (e (suc t) l).1, value_same initial f g n e t (omega arith) i)

-- a WRITE of a later tag leaves them
pub value_before : (initial : ℕ → Value) (write : ℕ → Transaction) (n : ℕ) (x : Transaction) (t : ℕ) → t ≤ n → (i : ℕ) →
    value_at initial (changed write (suc n) x) t i ≡ value_at initial write t i
value_before initial write n x t l i =
    value_same initial (changed write (suc n) x) write n
    (λ u k. let e = changed_other write (suc n) x u (λ z. omega arith) in
    (ap (λ (y : Transaction). y.mask) e, ap (λ (y : Transaction). y.value) e)) t l i

-- and so does the end of a WRITE
pub value-ended : (initial : ℕ → Value) (write : ℕ → Transaction) (tag end : ℕ) (t i : ℕ) →
    value_at initial (changed write tag (ended end (write tag))) t i ≡ value_at initial write t i
value-ended initial write tag end t i =
    value_same initial (changed write tag (ended end (write tag))) write t
    (λ u k. changed-all write tag (ended end (write tag)) (λ v y. (y.mask ≡ (write v).mask) × (y.value ≡ (write v).value))
    (refl, refl) (λ v d. (refl, refl)) u) t (omega arith) i

-- One step more on the clock.
module _ (tags_at : ℕ → ℕ) (clock tags : ℕ) where
  abbrev tags_at' : ℕ → ℕ
  tags_at' = changed tags_at (suc clock) tags

  before : (c : ℕ) → c ≤ clock → tags_at' c ≡ tags_at c
  before c l = changed_other tags_at (suc clock) tags c (λ e. omega arith)

  timed_on : (x : Transaction) → Timed clock tags_at x → Timed (suc clock) tags_at' x
  timed_on x h =
      let b : x.begin < clock = h.begun in
      let e : tags_at' x.begin ≡ tags_at x.begin = before x.begin (omega arith) in
      record {
        begun = omega arith;
        low = omega (arith, h.low);
        above = λ k. omega (arith, h.above k);
        high = λ c f. let q = h.high c f in (q.0, omega (arith, q.1), omega (arith, q.2, before (suc c) (omega (arith, q.1))));
      }

  write_on : (tag : ℕ) (x : Transaction) → WriteOk clock tags_at tag x → WriteOk (suc clock) tags_at' tag x
  write_on tag x h = record { kind = h.kind; tag = h.tag; timed = timed_on x h.timed }

  doing_on : (old : ℕ) → old ≤ tags → (floor : ℕ) (c : Doing) → DoingOk clock old tags_at floor c → DoingOk (suc clock) tags tags_at' floor c
  doing_on old l floor nothing h = tt
  doing_on old l floor (writing mask badge setpoints begin) h =
      (omega arith, omega (arith, before begin (omega (arith, h.0)), h.1), omega (arith, h.2))
  doing_on old l floor (tagged tag) h = (h.0, omega (arith, h.1))
  doing_on old l floor (reading mask begin deliveries losses) h =
      (omega arith, omega (arith, before begin (omega (arith, h.0)), h.1), omega (arith, h.2))

  rising_on : (old : ℕ) → old ≤ tags → tags_at clock ≡ old → Rising clock tags_at → Rising (suc clock) tags_at'
  rising_on old l e r c d h k =
      by_equal d (suc clock)
      (λ q. rw (q, changed-same tags_at (suc clock) tags)
      (changed-all tags_at (suc clock) tags (λ x a. x ≤ suc clock → a ≤ tags) (λ m. omega arith) (λ j ne m. omega (arith, r j clock (omega arith) (omega arith))) c (omega arith)))
      (λ q. omega (arith, before c (omega arith), before d (omega arith), r c d h (omega arith)))

-- what is kept of links is no part of it
marked-ok : (tags_at floor : ℕ → ℕ) (q i : ℕ) (request : Bool) (h : History) → HistoryOk tags_at floor h →
    HistoryOk tags_at floor (marked q i request h)
marked-ok tags_at floor q i request h ok = record {
  order = ok.order;
  rising = ok.rising;
  now = ok.now;
  writes = ok.writes;
  reads = ok.reads;
  shown = ok.shown;
  ends = ok.ends;
  tags = ok.tags;
  unfinished = ok.unfinished;
  doing = ok.doing;
  whose = ok.whose;
}

lost-more : (reply : Bool) (losses : ℕ) → losses ≤ lost_of reply losses
lost-more true losses = omega arith
lost-more false losses = omega arith

module _ (tags_at floor : ℕ → ℕ) (h : History) (ok : HistoryOk tags_at floor h) where
  abbrev now' : ℕ → ℕ
  now' = changed tags_at (suc h.clock) h.tags

  abbrev more : ℕ → ℕ
  more = changed tags_at (suc h.clock) (suc h.tags)

  -- only what the clients are at has changed
  same_ok : (floor' : ℕ → ℕ) (doing : ℕ → Doing) → ((q : ℕ) → Unfinished h.extra (doing q)) → ((q : ℕ) → DoingOk (suc h.clock) h.tags now' (floor' q) (doing q)) →
      HistoryOk now' floor' (history_of h.initial h.extra (suc h.clock) h.tags h.write h.said h.reads doing
      h.answered h.astray)
  same_ok floor' doing u d = record {
    rising = rising_on tags_at h.clock h.tags h.tags (omega arith) ok.now ok.rising;
    now = changed-same tags_at (suc h.clock) h.tags;
    writes = λ t l k. write_on tags_at h.clock h.tags t _ (ok.writes t l k);
    reads = each_map _ _ (timed_on tags_at h.clock h.tags) h.reads ok.reads;
    shown = ok.shown;
    ends = ok.ends;
    order = ok.order;
    tags = ok.tags;
    unfinished = u;
    doing = d;
    whose = ok.whose;
  }

  old_doing : (q : ℕ) → DoingOk (suc h.clock) h.tags now' (floor q) (h.doing q)
  old_doing q = doing_on tags_at h.clock h.tags h.tags (omega arith) (floor q) (h.doing q) (ok.doing q)

  passed_ok : HistoryOk now' floor (passed h)
  passed_ok = same_ok floor h.doing ok.unfinished old_doing

  turned-ok : (q : ℕ) (c : Doing) → Unfinished h.extra c → DoingOk (suc h.clock) h.tags now' (floor q) c → HistoryOk now' floor (turned q c h)
  turned-ok q c u d =
      same_ok floor (changed h.doing q c)
      (changed-all h.doing q c (λ j x. Unfinished h.extra x) u (λ j ne. ok.unfinished j))
      (changed-all h.doing q c (λ j x. DoingOk (suc h.clock) h.tags now' (floor j) x) d (λ j ne. old_doing j))

  -- a begin: the client's floor is the number tagged now
  begun_ok : (q : ℕ) (c : Doing) → Unfinished h.extra c → DoingOk (suc h.clock) h.tags now' h.tags c → HistoryOk now' (changed floor q h.tags) (turned q c h)
  begun_ok q c u d =
      same_ok (changed floor q h.tags) (changed h.doing q c)
      (changed-all h.doing q c (λ j x. Unfinished h.extra x) u (λ j ne. ok.unfinished j))
      (changed-both (λ j f x. DoingOk (suc h.clock) h.tags now' f x) floor h.doing q h.tags c d (λ j ne. old_doing j))

  begin_now : (begin : ℕ) → begin ≡ h.clock → (begin < suc h.clock) × (now' begin ≤ h.tags) × (h.tags ≤ h.tags)
  begin_now begin e = (omega arith, omega (arith, before tags_at h.clock h.tags begin (omega arith), ap tags_at e, ok.now), omega arith)

  reading_on : (q mask begin deliveries losses : ℕ) → h.doing q ≡ reading mask begin deliveries losses →
      DoingOk (suc h.clock) h.tags now' (floor q) (reading mask begin deliveries losses)
  reading_on q mask begin deliveries losses e = rw e at (old_doing q)

  delivered-ok : (q : ℕ) (c : Doing) → h.doing q ≡ c → More h.extra c → HistoryOk now' floor (delivered c q h)
  delivered-ok q nothing e m = absurd m
  delivered-ok q (writing mask badge setpoints begin) e m = passed_ok
  delivered-ok q (tagged tag) e m = passed_ok
  delivered-ok q (reading mask begin deliveries losses) e m =
      turned-ok q (reading mask begin (suc deliveries) losses) m (reading_on q mask begin deliveries losses e)

  given-ok : (q mask badge : ℕ) (setpoints : List ℕ) (begin : ℕ) → h.doing q ≡ writing mask badge setpoints begin →
      HistoryOk more floor (given q mask badge setpoints begin h)
  given-ok q mask badge setpoints begin e =
      let c : (begin < h.clock) × (tags_at begin ≤ floor q) × (floor q ≤ h.tags) = rw e at (ok.doing q) in
      let new = write_of q mask (value_written (suc h.tags) badge setpoints) (suc h.tags) begin none in
      let was : more begin ≡ tags_at begin = before tags_at h.clock (suc h.tags) begin (omega (arith, c.0)) in
      record {
        rising = rising_on tags_at h.clock (suc h.tags) h.tags (omega arith) ok.now ok.rising;
        now = changed-same tags_at (suc h.clock) (suc h.tags);
        writes = changed-all h.write (suc h.tags) new (λ t x. 1 ≤ t → t ≤ suc h.tags → WriteOk (suc h.clock) more t x)
            (λ l k. record {
              kind = refl;
              tag = refl;
              timed = record { begun = omega (arith, c.0); low = omega (arith, c.1, c.2, was); above = λ k. omega (arith, c.1, c.2, was); high = λ x y. absurd (none-ne-some x y) };
            })
            (λ t ne l k. write_on tags_at h.clock (suc h.tags) t _ (ok.writes t l (omega arith)));
        reads = each_map _ _ (timed_on tags_at h.clock (suc h.tags)) h.reads ok.reads;
        shown = each_map (Shown h) _ (λ x s. (s.0, omega (arith, s.1), λ i m. s.2 i m ∙ sym (value_before h.initial h.write h.tags new x.tag s.1 i))) h.reads ok.shown;
        ends = ok.ends;
        order = ok.order;
        tags = λ t a l k. changed-all h.said (suc h.tags) none (λ t s. t ≤ suc h.tags → 1 ≤ t → s ≡ some a → a ≡ t) (λ k l s. absurd (none-ne-some a s)) (λ t ne k l s. ok.tags t a l (omega arith) s) t k l;
        unfinished = changed-all h.doing q (tagged (suc h.tags)) (λ j x. Unfinished h.extra x) tt (λ j ne. ok.unfinished j);
        doing = changed-all h.doing q (tagged (suc h.tags)) (λ j x. DoingOk (suc h.clock) (suc h.tags) more (floor j) x) (omega arith, omega arith)
            (λ j ne. doing_on tags_at h.clock (suc h.tags) h.tags (omega arith) (floor j) (h.doing j) (ok.doing j));
        whose = ok.whose;
      }

  wrote-ok : (q tag : ℕ) → h.doing q ≡ tagged tag → HistoryOk now' floor (wrote tag (tagged tag) q h)
  wrote-ok q tag e =
      let w = ended h.clock (h.write tag) in
      record {
        rising = rising_on tags_at h.clock h.tags h.tags (omega arith) ok.now ok.rising;
        now = changed-same tags_at (suc h.clock) h.tags;
        writes = changed-all h.write tag w (λ t x. 1 ≤ t → t ≤ h.tags → WriteOk (suc h.clock) now' t x)
            (λ l k.
            let old = ok.writes tag l k in
            let on = timed_on tags_at h.clock h.tags _ old.timed in
            record {
              kind = old.kind;
              tag = old.tag;
              timed = record {
                begun = on.begun;
                low = on.low;
                above = on.above;
                high = λ x y. rw (← some-injective _ _ y) (old.timed.begun, omega arith, rw (changed-same tags_at (suc h.clock) h.tags) (omega (arith, old.tag)));
              };
            })
            (λ t ne l k. write_on tags_at h.clock h.tags t _ (ok.writes t l k));
        reads = each_map _ _ (timed_on tags_at h.clock h.tags) h.reads ok.reads;
        shown = each_map (Shown h) _ (λ x s. (s.0, s.1, λ i m. s.2 i m ∙ sym (value-ended h.initial h.write tag h.clock x.tag i))) h.reads ok.shown;
        ends = ok.ends;
        order = ok.order;
        tags = λ t a l k. changed-all h.said tag (some tag) (λ t s. 1 ≤ t → t ≤ h.tags → s ≡ some a → a ≡ t) (λ l k s. sym (some-injective _ _ s)) (λ t ne l k s. ok.tags t a l k s) t l k;
        unfinished = changed-all h.doing q nothing (λ j x. Unfinished h.extra x) tt (λ j ne. ok.unfinished j);
        doing = changed-all h.doing q nothing (λ j x. DoingOk (suc h.clock) h.tags now' (floor j) x) tt (λ j ne. old_doing j);
        whose = ok.whose;
      }

  showed-ok : (q tag : ℕ) (d : Delivered) → OwedRead (floor q) h (h.doing q) tag d → HistoryOk now' floor (showed tag d (h.doing q) q h)
  showed-ok q tag d owed =
      let c : (owed.begin < h.clock) × (tags_at owed.begin ≤ floor q) × (floor q ≤ h.tags) = rw owed.is at (ok.doing q) in
      rw owed.is record {
        order = pairs-inserted _ NoLater _ (λ y l. omega arith) (λ y l. omega arith) (λ y z l k. omega arith) h.reads ok.order;
        rising = rising_on tags_at h.clock h.tags h.tags (omega arith) ok.now ok.rising;
        now = changed-same tags_at (suc h.clock) h.tags;
        writes = λ t l k. write_on tags_at h.clock h.tags t _ (ok.writes t l k);
        reads = each-inserted _ (Timed (suc h.clock) now') _ h.reads (record {
          begun = omega (arith, c.0);
          low = omega (arith, before tags_at h.clock h.tags owed.begin (omega (arith, c.0)), c.1, owed.low);
          above = λ k. absurd (false≢true k);
          high = λ e y.
              rw (← some-injective _ _ y) (c.0, omega arith, rw (changed-same tags_at (suc h.clock) h.tags) owed.high);
        })
            (each_map _ _ (timed_on tags_at h.clock h.tags) h.reads ok.reads);
        shown = each-inserted _ (Shown h) _ h.reads (refl, omega (arith, owed.high), λ i m. cc (owed.shows i m)) ok.shown;
        ends = each-inserted _ (EndsAt h.extra) _ h.reads (λ k. owed.count) ok.ends;
        tags = ok.tags;
        unfinished = changed-all h.doing q nothing (λ j y. Unfinished h.extra y) tt (λ j ne. ok.unfinished j);
        doing = changed-all h.doing q nothing (λ j y. DoingOk (suc h.clock) h.tags now' (floor j) y) tt (λ j ne. old_doing j);
        whose = ok.whose;
      }

  -- what is true afterwards, with the numbers tagged before each step
  abbrev pub Next : Event → Type 0
  Next event = (t : ℕ → ℕ) × HistoryOk t (floor_after event h floor) (after event h)

  entered-ok : (q : ℕ) (c : Doing) → h.doing q ≡ c → More h.extra c → (t : ℕ → ℕ) × HistoryOk t floor (entered c q h)
  entered-ok q nothing e m = absurd m
  entered-ok q (writing mask badge setpoints begin) e m = (more, given-ok q mask badge setpoints begin e)
  entered-ok q (tagged tag) e m = (now', passed_ok)
  entered-ok q (reading mask begin deliveries losses) e m = (now', delivered-ok q (reading mask begin deliveries losses) e m)

  -- whichever target the test tells from the others
  requested-ok : (q : ℕ) (test : Bool) → More h.extra (h.doing q) → (t : ℕ → ℕ) × HistoryOk t floor (cond test (entered (h.doing q) q h) (delivered (h.doing q) q h))
  requested-ok q true m = entered-ok q (h.doing q) refl m
  requested-ok q false m = (now', delivered-ok q (h.doing q) refl m)

  arrived-ok : (q i : ℕ) (a : Arrival) (d : Delivered) → OwedArrival floor h a d q → HistoryOk now' floor (arrived a d q i h)
  arrived-ok q i arrival.Wait d owed = marked-ok now' floor q i false _ (delivered-ok q (h.doing q) refl owed)
  arrived-ok q i arrival.Next d owed = marked-ok now' floor q i false _ (delivered-ok q (h.doing q) refl owed)
  arrived-ok q i (arrival.Write tag) d owed = marked-ok now' floor q i false _ (rw owed (wrote-ok q tag owed))
  arrived-ok q i (arrival.Read tag) d owed = marked-ok now' floor q i false _ (showed-ok q tag d owed)
  arrived-ok q i (arrival.Refused n) d owed = passed_ok

  -- a loss only puts off the end of a READ
  missed-ok : (q : ℕ) (reply : Bool) (c : Doing) → h.doing q ≡ c → Busy c → HistoryOk now' floor (missed reply c q h)
  missed-ok q reply nothing e b = absurd b
  missed-ok q reply (writing mask badge setpoints begin) e b = passed_ok
  missed-ok q reply (tagged tag) e b = passed_ok
  missed-ok q reply (reading mask begin deliveries losses) e b =
      let fewer : Unfinished h.extra (reading mask begin deliveries losses) = rw e at (ok.unfinished q) in
      turned-ok q (reading mask begin deliveries (lost_of reply losses)) (omega (arith, fewer, lost-more reply losses))
      (reading_on q mask begin deliveries losses e)

  repeated-ok : (q : ℕ) (c : Doing) → Busy c → HistoryOk now' floor (repeated c h)
  repeated-ok q nothing b = absurd b
  repeated-ok q (writing mask badge setpoints begin) b = passed_ok
  repeated-ok q (tagged tag) b = passed_ok
  repeated-ok q (reading mask begin deliveries losses) b = passed_ok

pub fresh_ok : (floor : ℕ → ℕ) (initial : ℕ → Value) (extra : ℕ) → HistoryOk (λ c. 0) floor (fresh initial extra)
fresh_ok floor initial extra = record {
  rising = λ c d l k. omega arith;
  now = refl;
  writes = λ t l k. let z : ⊥ = omega arith in absurd z;
  reads = tt;
  shown = tt;
  ends = tt;
  order = tt;
  tags = λ t a l k. let z : ⊥ = omega arith in absurd z;
  unfinished = λ q. tt;
  doing = λ q. tt;
  whose = refl;
}

pub after-ok : (tags_at floor : ℕ → ℕ) (h : History) (ok : HistoryOk tags_at floor h) (event : Event) → Owed floor h event → Next tags_at floor h ok event
after-ok tags_at floor h ok (opened method k p setpoints Ok) owed = ((λ c. 0), fresh_ok floor (value_opened setpoints) (extra_of method))
after-ok tags_at floor h ok (opened method k p setpoints (Refused n)) owed = (now' tags_at floor h ok, passed_ok tags_at floor h ok)
after-ok tags_at floor h ok (begun-write q mask badge setpoints Ok) owed = rw owed (
  now' tags_at floor h ok,
  begun_ok tags_at floor h ok q (writing mask (badge_of badge) setpoints h.clock) tt
      (begin_now tags_at floor h ok h.clock refl),
)
after-ok tags_at floor h ok (begun-write q mask badge setpoints (Refused n)) owed = (now' tags_at floor h ok, passed_ok tags_at floor h ok)
after-ok tags_at floor h ok (begun-read q mask Ok) owed = rw owed.0 (
  now' tags_at floor h ok,
  begun_ok tags_at floor h ok q (reading mask h.clock 0 0) owed.1 (begin_now tags_at floor h ok h.clock refl),
)
after-ok tags_at floor h ok (begun-read q mask (Refused n)) owed = (now' tags_at floor h ok, passed_ok tags_at floor h ok)
after-ok tags_at floor h ok (requested q i Ok) owed =
    let r = requested-ok tags_at floor h ok q (at_coordinator i) owed in (r.0, marked-ok r.0 floor q i true _ r.1)
after-ok tags_at floor h ok (requested q i (Refused n)) owed = (now' tags_at floor h ok, passed_ok tags_at floor h ok)
after-ok tags_at floor h ok (replied q i d) owed = (now' tags_at floor h ok, arrived-ok tags_at floor h ok q i d.arrival d owed)
after-ok tags_at floor h ok (lost q i Ok) owed = (
  now' tags_at floor h ok,
  marked-ok (now' tags_at floor h ok) floor q i false _ (missed-ok tags_at floor h ok q _ (h.doing q) refl owed),
)
after-ok tags_at floor h ok (lost q i (Refused n)) owed = (now' tags_at floor h ok, passed_ok tags_at floor h ok)
after-ok tags_at floor h ok (resent q i Ok) owed =
    (now' tags_at floor h ok, marked-ok (now' tags_at floor h ok) floor q i false _ (repeated-ok tags_at floor h ok q (h.doing q) owed))
after-ok tags_at floor h ok (resent q i (Refused n)) owed = (now' tags_at floor h ok, passed_ok tags_at floor h ok)
