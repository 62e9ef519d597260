-- What no machine can break, whatever it answers, since the history is folded so: WRITEs stand in real time among themselves. And two
-- fields of the claim that say the same: `whole` and `complete`.
use Prim.Native.Nat.{ℕ, zero, suc, ◌+◌, ◌≤◌, ◌<◌}
use mathlib.Core.Path.{◌≡◌, refl}
use mathlib.Core.Bool.{Bool, true, false}
use mathlib.Core.Option.{none, some, none-ne-some, some-injective}
use mathlib.Core.List.{List, [], ◌∷◌}
use native.Mathlib.Omega.{arith}
use lib.ListN.{length}
use lib.Dec.{ltb}
use borrow.Author.Tests.{ltb-true, ltb-false}
use Rattle.ranges.specs.Tests.{either, by_equal, by-test, not-both}
use Rattle.ranges.specs.Each.{Each, each_append, each_map, each_at}
use Rattle.ranges.specs.InsertedLaws.{each-inserted}
use Rattle.rules.specs.Answer as answer
use Rattle.rules.specs.declared.Arrival.{Arrival}
use Rattle.rules.specs.declared.Arrival.TheVariants as arrival
use Rattle.rules.specs.declared.Delivered.{Delivered}
use Rattle.claim.specs.Steps.{Event, opened, begun-write, begun-read, requested, replied, lost, resent, Played}
use Rattle.refusals.specs.Steps.{badge_of}
use Rattle.claim.specs.History.{value_written, changed, Transaction, no_write, Doing, nothing, writing, tagged, reading}
use Rattle.claim.specs.History.{History, history_of, turned, write_of, given}
use Rattle.claim.specs.History.{begun, delivered, entered, ended, wrote, showed, marked, arrived, lost_of, missed, repeated}
use Rattle.claim.specs.History.{opened_with, at_coordinator, after, history}
use Rattle.claim.specs.Row.{reads_of, row_to, row, at}
use Rattle.claim.specs.Fields.{RealTimeOf}
use Rattle.serial.proofs.Places.{changed_other, changed-all}
use Rattle.serial.proofs.Lists.{Pairs, pairs-append, pairs_at, reads_only, row-complete, complete-whole}

-- ---- `whole` and `complete`

pub whole_is-complete : (h : History) → let whole = Each (λ x. x.tag ≤ h.tags) h.reads in
    let complete = length (row h) ≡ h.tags + length h.reads in
    (whole → complete) × (complete → whole)
whole_is-complete h = (row-complete h, complete-whole h)

-- ---- WRITEs in time

abbrev Begun : ℕ → Doing → Type 0
Begun clock nothing = Unit {0}
Begun clock (writing mask badge setpoints begin) = begin < clock
Begun clock (tagged tag) = Unit {0}
Begun clock (reading mask begin deliveries losses) = Unit {0}

abbrev IsRead : Transaction → Type 0
IsRead x = x.is_write ≡ false

-- a WRITE that has an end ended when every WRITE up to its tag had begun
record Timely (h : History) : Type 0 where
  reads : Each IsRead h.reads
  doing : (q : ℕ) → Begun h.clock (h.doing q)
  begun : (tag : ℕ) → tag ≤ h.tags → 1 ≤ tag → (h.write tag).begin < h.clock
  ends : (tag : ℕ) → tag ≤ h.tags → (end : ℕ) → (h.write tag).end ≡ some end →
      (other : ℕ) → 1 ≤ other → other ≤ tag → (h.write other).begin ≤ end

-- what is kept of links is no part of it
marked_timely : (q i : ℕ) (request : Bool) (h : History) → Timely h → Timely (marked q i request h)
marked_timely q i request h ok = record { reads = ok.reads; doing = ok.doing; begun = ok.begun; ends = ok.ends }

module _ (h : History) (ok : Timely h) where
  begun_on : (clock : ℕ) (d : Doing) → Begun clock d → Begun (suc clock) d
  begun_on clock nothing b = tt
  begun_on clock (writing mask badge setpoints begin) b = omega (arith, b)
  begun_on clock (tagged tag) b = tt
  begun_on clock (reading mask begin deliveries losses) b = tt

  old_doing : (q : ℕ) → Begun (suc h.clock) (h.doing q)
  old_doing q = begun_on h.clock (h.doing q) (ok.doing q)

  new_doing : (q : ℕ) (d : Doing) → Begun (suc h.clock) d → (j : ℕ) → Begun (suc h.clock) (changed h.doing q d j)
  new_doing q d b = changed-all h.doing q d (λ j x. Begun (suc h.clock) x) b (λ j ne. old_doing j)

  -- WRITEs and READs are as they were
  kept : (doing : ℕ → Doing) (astray : ℕ) → ((q : ℕ) → Begun (suc h.clock) (doing q)) →
      Timely (history_of h.initial h.extra (suc h.clock) h.tags h.write h.said h.reads doing
      h.answered astray)
  kept doing astray b = record {
    reads = ok.reads;
    doing = b;
    begun = λ tag l k. omega (arith, ok.begun tag l k);
    ends = ok.ends;
  }

  stays : (astray : ℕ) →
      Timely (history_of h.initial h.extra (suc h.clock) h.tags h.write h.said h.reads h.doing
      h.answered astray)
  stays astray = kept h.doing astray old_doing

  turns : (q : ℕ) (d : Doing) → Begun (suc h.clock) d → Timely (turned q d h)
  turns q d b = kept (changed h.doing q d) h.astray (new_doing q d b)

  begun_timely : (c d : Doing) (q : ℕ) → Begun (suc h.clock) d → Timely (begun c q d h)
  begun_timely nothing d q b = turns q d b
  begun_timely (writing mask badge setpoints begin) d q b = stays (suc h.astray)
  begun_timely (tagged tag) d q b = stays (suc h.astray)
  begun_timely (reading mask begin deliveries losses) d q b = stays (suc h.astray)

  delivered_timely : (c : Doing) (q : ℕ) → Timely (delivered c q h)
  delivered_timely nothing q = stays (suc h.astray)
  delivered_timely (writing mask badge setpoints begin) q = stays h.astray
  delivered_timely (tagged tag) q = stays h.astray
  delivered_timely (reading mask begin deliveries losses) q = turns q (reading mask begin (suc deliveries) losses) tt

  -- a WRITE gets its tag, and has no end
  given_timely : (q mask badge : ℕ) (setpoints : List ℕ) (begin : ℕ) → begin < h.clock → Timely (given q mask badge setpoints begin h)
  given_timely q mask badge setpoints begin b =
      let last = suc h.tags in
      let new = write_of q mask (value_written last badge setpoints) last begin none in
      let write : ℕ → Transaction = changed h.write last new in
      record {
        reads = ok.reads;
        doing = new_doing q (tagged last) tt;
        begun = changed-all h.write last new (λ tag x. tag ≤ last → 1 ≤ tag → x.begin < suc h.clock)
            (λ l k. omega arith)
            (λ tag ne l k. omega (arith, ok.begun tag (omega arith) k));
        ends = changed-all h.write last new
            (λ tag x. tag ≤ last → (end : ℕ) → x.end ≡ some end → (other : ℕ) → 1 ≤ other → other ≤ tag → (write other).begin ≤ end)
            (λ l end e. absurd (none-ne-some end e))
            (λ tag ne l end e other k u.
            rw (changed_other h.write last new other (λ z. omega arith)) (ok.ends tag (omega arith) end e other k u));
      }

  entered_timely : (c : Doing) (q : ℕ) → h.doing q ≡ c → Timely (entered c q h)
  entered_timely nothing q e = stays (suc h.astray)
  entered_timely (writing mask badge setpoints begin) q e =
      given_timely q mask badge setpoints begin (let b : Begun h.clock (writing mask badge setpoints begin) = rw e at (ok.doing q) in b)
  entered_timely (tagged tag) q e = stays h.astray
  entered_timely (reading mask begin deliveries losses) q e = turns q (reading mask begin (suc deliveries) losses) tt

  -- a WRITE ends now, when all that have a tag had begun
  wrote_timely : (a : ℕ) (c : Doing) (q : ℕ) → Timely (wrote a c q h)
  wrote_timely a nothing q = stays (suc h.astray)
  wrote_timely a (writing mask badge setpoints begin) q = stays (suc h.astray)
  wrote_timely a (tagged t) q =
      let new = ended h.clock (h.write t) in
      let write : ℕ → Transaction = changed h.write t new in
      let begins : (v : ℕ) → (write v).begin ≡ (h.write v).begin =
      changed-all h.write t new (λ v x. x.begin ≡ (h.write v).begin) refl (λ v ne. refl) in
      record {
        reads = ok.reads;
        doing = new_doing q nothing tt;
        begun = λ tag l k. omega (arith, begins tag, ok.begun tag l k);
        ends = changed-all h.write t new
            (λ tag x. tag ≤ h.tags → (end : ℕ) → x.end ≡ some end → (other : ℕ) → 1 ≤ other → other ≤ tag → (write other).begin ≤ end)
            (λ l end e other k u.
            omega (arith, begins other, ok.begun other (omega arith) k, some-injective h.clock end e))
            (λ tag ne l end e other k u. omega (arith, begins other, ok.ends tag l end e other k u));
      }
  wrote_timely a (reading mask begin deliveries losses) q = stays (suc h.astray)

  showed_timely : (tag : ℕ) (d : Delivered) (c : Doing) (q : ℕ) → Timely (showed tag d c q h)
  showed_timely tag d nothing q = stays (suc h.astray)
  showed_timely tag d (writing mask badge setpoints begin) q = stays (suc h.astray)
  showed_timely tag d (tagged t) q = stays (suc h.astray)
  showed_timely tag d (reading mask begin deliveries losses) q =
      let k = kept (changed h.doing q nothing) h.astray (new_doing q nothing tt) in
      record { reads = each-inserted _ IsRead _ h.reads refl ok.reads; doing = k.doing; begun = k.begun; ends = k.ends }

  arrived_timely : (a : Arrival) (d : Delivered) (q i : ℕ) → Timely (arrived a d q i h)
  arrived_timely arrival.Wait d q i = marked_timely q i false _ (delivered_timely (h.doing q) q)
  arrived_timely arrival.Next d q i = marked_timely q i false _ (delivered_timely (h.doing q) q)
  arrived_timely (arrival.Write tag) d q i = marked_timely q i false _ (wrote_timely tag (h.doing q) q)
  arrived_timely (arrival.Read tag) d q i = marked_timely q i false _ (showed_timely tag d (h.doing q) q)
  arrived_timely (arrival.Refused n) d q i = stays h.astray

  missed_timely : (reply : Bool) (c : Doing) (q : ℕ) → Timely (missed reply c q h)
  missed_timely reply nothing q = stays (suc h.astray)
  missed_timely reply (writing mask badge setpoints begin) q = stays h.astray
  missed_timely reply (tagged tag) q = stays h.astray
  missed_timely reply (reading mask begin deliveries losses) q = turns q (reading mask begin deliveries (lost_of reply losses)) tt

  repeated_timely : (c : Doing) → Timely (repeated c h)
  repeated_timely nothing = stays (suc h.astray)
  repeated_timely (writing mask badge setpoints begin) = stays h.astray
  repeated_timely (tagged tag) = stays h.astray
  repeated_timely (reading mask begin deliveries losses) = stays h.astray

fresh_timely : (method : ℕ) (setpoints : List ℕ) → Timely (opened_with method setpoints)
fresh_timely method setpoints = record {
  reads = tt;
  doing = λ q. tt;
  begun = λ tag l k. let z : ⊥ = omega arith in absurd z;
  ends = λ tag l end e. absurd (none-ne-some end e);
}

after_timely : (e : Event) (h : History) → Timely h → Timely (after e h)
after_timely (opened method k p setpoints answer.Ok) h ok = fresh_timely method setpoints
after_timely (opened method k p setpoints (answer.Refused n)) h ok = stays h ok h.astray
after_timely (begun-write q mask badge setpoints answer.Ok) h ok =
    begun_timely h ok (h.doing q) (writing mask (badge_of badge) setpoints h.clock) q (omega arith)
after_timely (begun-write q mask badge setpoints (answer.Refused n)) h ok = stays h ok h.astray
after_timely (begun-read q mask answer.Ok) h ok = begun_timely h ok (h.doing q) (reading mask h.clock 0 0) q tt
after_timely (begun-read q mask (answer.Refused n)) h ok = stays h ok h.astray
after_timely (requested q i answer.Ok) h ok =
    marked_timely q i true _
    (either Timely (at_coordinator i) (entered_timely h ok (h.doing q) q refl) (delivered_timely h ok (h.doing q) q))
after_timely (requested q i (answer.Refused n)) h ok = stays h ok h.astray
after_timely (replied q i d) h ok = arrived_timely h ok d.arrival d q i
after_timely (lost q i answer.Ok) h ok = marked_timely q i false _ (missed_timely h ok _ (h.doing q) q)
after_timely (lost q i (answer.Refused n)) h ok = stays h ok h.astray
after_timely (resent q i answer.Ok) h ok = marked_timely q i false _ (repeated_timely h ok (h.doing q))
after_timely (resent q i (answer.Refused n)) h ok = stays h ok h.astray

history_timely : (steps : List Played) (h : History) → Timely h → Timely (history steps h)
history_timely [] h ok = ok
history_timely (x ∷ xs) h ok = history_timely xs (after x.event h) (after_timely x.event h ok)

-- ---- and so in the row

-- where both are WRITEs, the second did not end before the first began
abbrev NotBefore : Transaction → Transaction → Type 0
NotBefore x y = x.is_write ≡ true → y.is_write ≡ true → (end : ℕ) → y.end ≡ some end → x.begin ≤ end

module _ (h : History) (ok : Timely h) where
  -- a WRITE up to a tag
  abbrev UpTo : ℕ → Transaction → Type 0
  UpTo tag x = x.is_write ≡ true → (s : ℕ) × (1 ≤ s) × (s ≤ tag) × (x.begin ≡ (h.write s).begin)

  of-tag : (tag : ℕ) → Each IsRead (reads_of tag h.reads)
  of-tag tag = reads_only IsRead tag h.reads ok.reads

  up_to : (tag : ℕ) → Each (UpTo tag) (row_to h tag)
  unfolding row_to
  up_to zero = each_map IsRead (UpTo 0) (λ x r w. absurd (not-both w r)) (reads_of 0 h.reads) (of-tag 0)
  up_to (suc tag) =
      each_append (UpTo (suc tag)) (row_to h tag) _
      (each_map (UpTo tag) (UpTo (suc tag)) (λ x u w. let s = u w in (s.0, s.1, omega (arith, s.2), s.3)) (row_to h tag) (up_to tag)) (
        λ w. (suc tag, omega arith, omega arith, refl),
        each_map IsRead (UpTo (suc tag)) (λ x r w. absurd (not-both w r)) (reads_of (suc tag) h.reads) (of-tag (suc tag)),
      )

  behind-reads : (x : Transaction) (xs : List Transaction) → Each IsRead xs → Each (NotBefore x) xs
  behind-reads x xs a = each_map IsRead (NotBefore x) (λ y r v w. absurd (not-both w r)) xs a

  reads_pairs : (xs : List Transaction) → Each IsRead xs → Pairs NotBefore xs
  reads_pairs [] a = tt
  reads_pairs (x ∷ xs) a = (behind-reads x xs a.1, reads_pairs xs a.1)

  to_write : (tag : ℕ) → tag < h.tags → (x : Transaction) → UpTo (suc tag) x → NotBefore x (h.write (suc tag))
  to_write tag l x u v w end e = let s = u v in omega (arith, s.3, ok.ends (suc tag) l end e s.0 s.1 s.2)

  ordered : (tag : ℕ) → tag ≤ h.tags → Pairs NotBefore (row_to h tag)
  unfolding row_to
  ordered zero l = reads_pairs (reads_of 0 h.reads) (of-tag 0)
  ordered (suc tag) l =
      let w = h.write (suc tag) in
      let rs = reads_of (suc tag) h.reads in
      pairs-append NotBefore (row_to h tag) (w ∷ rs) (ordered tag (omega arith))
      (behind-reads w rs (of-tag (suc tag)), reads_pairs rs (of-tag (suc tag)))
      (each_map (UpTo tag) (λ x. Each (NotBefore x) (w ∷ rs))
      (λ x u. (to_write tag l x (λ v. let s = u v in (s.0, s.1, omega (arith, s.2), s.3)), behind-reads x rs (of-tag (suc tag))))
      (row_to h tag) (up_to tag))

  -- nor before itself
  itself : (tag : ℕ) → tag ≤ h.tags → Each (λ x. NotBefore x x) (row_to h tag)
  unfolding row_to
  itself zero l = each_map IsRead (λ x. NotBefore x x) (λ x r v w. absurd (not-both w r)) (reads_of 0 h.reads) (of-tag 0)
  itself (suc tag) l =
      each_append (λ x. NotBefore x x) (row_to h tag) _ (itself tag (omega arith)) (
        to_write tag l (h.write (suc tag)) (λ v. (suc tag, omega arith, omega arith, refl)),
        each_map IsRead (λ x. NotBefore x x) (λ x r v w. absurd (not-both w r)) (reads_of (suc tag) h.reads) (of-tag (suc tag)),
      )

  in_row : RealTimeOf true true (row h)
  in_row m lm n ln v w end e l =
      by-test (ltb m n)
      (λ b. ltb-true _ _ b)
      (λ b. let g : n ≤ m = ltb-false m n b in
      by_equal m n
      (λ d.
      let self = each_at (λ x. NotBefore x x) no_write (row h) (itself h.tags (omega arith)) m lm in
      let y : (at (row h) m).begin ≤ end = self v v end e in
      let z : end < (at (row h) m).begin = rw d l in
      let no : ⊥ = omega arith in absurd no)
      (λ d. let y = pairs_at NotBefore no_write (row h) (ordered h.tags (omega arith)) n m (omega arith) lm w v end e in
      let no : ⊥ = omega arith in absurd no))

pub writes-in_time : (method : ℕ) (setpoints : List ℕ) (steps : List Played) →
    RealTimeOf true true (row (history steps (opened_with method setpoints)))
writes-in_time method setpoints steps =
    let start = opened_with method setpoints in
    in_row (history steps start) (history_timely steps start (fresh_timely method setpoints))
