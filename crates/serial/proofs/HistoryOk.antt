-- What is true of every history whose steps paid what they owed, and that the claim follows from it.
use Prim.Native.Nat.{ℕ, zero, suc, ◌≤◌, ◌<◌}
use mathlib.Core.Path.{◌≡◌, refl, ap, ◌∙◌, fun_ext}
use mathlib.Core.Bool.{true, false}
use mathlib.Core.Option.{some}
use mathlib.Core.List.{List, [], ◌∷◌, ◌++◌}
use native.Mathlib.Omega.{arith}
use lib.Dec.{leb, ltb}
use borrow.Author.Tests.{leb-true, leb-false, ltb-true, ltb-false}
use Rattle.ranges.specs.Tests.{by_equal, by-test, not-both}
use Rattle.ranges.specs.Each.{Each, each_append, each_map, each_at}
use Rattle.keys.specs.Masks.{has_server}
use Rattle.claim.specs.Steps.{Played}
use Rattle.claim.specs.History.{Value, Transaction, no_write, Doing, nothing, writing, tagged, reading, History}
use Rattle.claim.specs.Row.{reads_of, row_to, row, walked, Walk, at, RealTime}
use Rattle.claim.specs.Claim.{EndsAt, Unfinished, Answers, Claim}
use Rattle.serial.proofs.Lists.{Pairs, pairs-append, pairs-map, pairs_at, OfTag, reads-each, reads_only, reads_pairs, row-complete}
use Rattle.serial.proofs.Owed.{value_at, value_in}

-- A transaction in time. `tags_at c` is the number of WRITEs tagged before step c.
pub record Timed (clock : ℕ) (tags_at : ℕ → ℕ) (x : Transaction) : Type 0 where
  pub begun : x.begin < clock
  pub low : tags_at x.begin ≤ x.tag
  pub above : x.is_write ≡ true → tags_at x.begin < x.tag
  pub high : (e : ℕ) → x.end ≡ some e → (x.begin < e) × (e < clock) × (x.tag ≤ tags_at (suc e))

abbrev pub Rising : ℕ → (ℕ → ℕ) → Type 0
Rising clock tags_at = (c d : ℕ) → c ≤ d → d ≤ clock → tags_at c ≤ tags_at d

abbrev pub DoingOk : ℕ → ℕ → (ℕ → ℕ) → ℕ → Doing → Type 0
DoingOk clock tags tags_at floor nothing = Unit {0}
DoingOk clock tags tags_at floor (writing mask badge setpoints begin) = (begin < clock) × (tags_at begin ≤ floor) × (floor ≤ tags)
DoingOk clock tags tags_at floor (tagged tag) = (1 ≤ tag) × (tag ≤ tags)
DoingOk clock tags tags_at floor (reading mask begin deliveries losses) = (begin < clock) × (tags_at begin ≤ floor) × (floor ≤ tags)

-- the first began no later than the second
abbrev pub NoLater : Transaction → Transaction → Type 0
NoLater x y = x.begin ≤ y.begin

-- the second did not end before the first began
abbrev pub NotBefore : Transaction → Transaction → Type 0
NotBefore x y = (e : ℕ) → y.end ≡ some e → x.begin ≤ e

-- a finished READ, its tag, and what it showed
abbrev pub Shown : History → Transaction → Type 0
Shown h x = (x.is_write ≡ false) × (x.tag ≤ h.tags) × ((i : ℕ) → has_server x.mask i ≡ true → x.value i ≡ value_in h x.tag i)

pub record WriteOk (clock : ℕ) (tags_at : ℕ → ℕ) (place : ℕ) (x : Transaction) : Type 0 where
  pub kind : x.is_write ≡ true
  pub tag : x.tag ≡ place
  pub timed : Timed clock tags_at x

pub record HistoryOk (tags_at floor : ℕ → ℕ) (h : History) : Type 0 where
  -- READs stand in order of their begins
  pub order : Pairs NoLater h.reads
  pub rising : Rising h.clock tags_at
  pub now : tags_at h.clock ≡ h.tags
  pub writes : (tag : ℕ) → 1 ≤ tag → tag ≤ h.tags → WriteOk h.clock tags_at tag (h.write tag)
  pub reads : Each (Timed h.clock tags_at) h.reads
  pub shown : Each (Shown h) h.reads
  pub ends : Each (EndsAt h.extra) h.reads
  pub tags : (tag answer : ℕ) → 1 ≤ tag → tag ≤ h.tags → h.said tag ≡ some answer → answer ≡ tag
  pub unfinished : (q : ℕ) → Unfinished h.extra (h.doing q)
  pub doing : (q : ℕ) → DoingOk h.clock h.tags tags_at (floor q) (h.doing q)
  pub whose : h.astray ≡ 0

-- The walk: where it stands behind a part of the row.
abbrev behind : (ℕ → Value) → List Transaction → ℕ → Value
behind values [] = values
behind values (x ∷ xs) = behind (walked values x) xs

walk-append : (values : ℕ → Value) (xs ys : List Transaction) → Walk values xs → Walk (behind values xs) ys → Walk values (xs ++ ys)
walk-append values [] ys a b = b
walk-append values (x ∷ xs) ys a b = (a.0, walk-append (walked values x) xs ys a.1 b)

behind-append : (values : ℕ → Value) (xs ys : List Transaction) → behind values (xs ++ ys) ≡ behind (behind values xs) ys
behind-append values [] ys = refl
behind-append values (x ∷ xs) ys = behind-append (walked values x) xs ys

-- READs that all show the values just then change none
abbrev ReadAt : (ℕ → Value) → Transaction → Type 0
ReadAt values x = (x.is_write ≡ false) × ((i : ℕ) → has_server x.mask i ≡ true → x.value i ≡ values i)

walk-reads : (values : ℕ → Value) (xs : List Transaction) → Each (ReadAt values) xs → Walk values xs × (behind values xs ≡ values)
walk-reads values [] a = (tt, refl)
walk-reads values (x ∷ xs) a =
    let rest = walk-reads values xs a.1 in
    let e : walked values x ≡ values = fun_ext (λ i. rw a.0.0) in
    ((λ f. a.0.1, rw e rest.0), rw e rest.1)

-- fewer WRITEs were tagged when x began than y's tag: y did not finish before x began
not-before : (clock : ℕ) (tags_at : ℕ → ℕ) → Rising clock tags_at → (x y : Transaction) → Timed clock tags_at x → Timed clock tags_at y → tags_at x.begin < y.tag → NotBefore x y
not-before clock tags_at rising x y tx ty h e f =
    by-test (leb x.begin e)
    (λ b. leb-true _ _ b)
    (λ b. let l : e < x.begin = leb-false _ _ b in omega (arith, tx.begun, (ty.high e f).2, rising (suc e) x.begin (omega arith) (omega (arith, tx.begun))))

module _ (tags_at floor : ℕ → ℕ) (h : History) (ok : HistoryOk tags_at floor h) where
  abbrev Time : Transaction → Type 0
  Time = Timed h.clock tags_at

  segment : (tag : ℕ) → Each (ReadAt (value_in h tag)) (reads_of tag h.reads)
  segment tag =
      each_map (OfTag (Shown h) tag) (ReadAt (value_in h tag)) (λ x q. (q.0.0, λ i m. q.0.2 i m ∙ ap (λ (u : ℕ). value_in h u i) q.1))
      (reads_of tag h.reads) (reads-each (Shown h) tag h.reads ok.shown)

  walk_to : (tag : ℕ) → tag ≤ h.tags → Walk h.initial (row_to h tag) × (behind h.initial (row_to h tag) ≡ value_in h tag)
  unfolding row_to value_at
  walk_to zero l = walk-reads h.initial (reads_of 0 h.reads) (segment 0)
  walk_to (suc tag) l =
      let before = walk_to tag (omega arith) in
      let here = walk-reads (value_in h (suc tag)) (reads_of (suc tag) h.reads) (segment (suc tag)) in
      let kind : (h.write (suc tag)).is_write ≡ true = (ok.writes (suc tag) (omega arith) l).kind in
      let step : walked (value_in h tag) (h.write (suc tag)) ≡ value_in h (suc tag) = fun_ext (λ i. rw kind) in (
        walk-append h.initial (row_to h tag) _ before.0 (rw before.1 (λ e. absurd (not-both kind e), rw step here.0)),
        behind-append h.initial (row_to h tag) _
            ∙ ap (λ (v : ℕ → Value). behind (walked v (h.write (suc tag))) (reads_of (suc tag) h.reads)) before.1
            ∙ ap (λ (v : ℕ → Value). behind v (reads_of (suc tag) h.reads)) step
            ∙ here.1,
      )

  -- every one of the row in time
  abbrev UpTo : ℕ → Transaction → Type 0
  UpTo tag x = (x.tag ≤ tag) × Time x

  abbrev With : ℕ → Transaction → Type 0
  With tag x = (x.tag ≡ tag) × Time x

  reads_with : (tag : ℕ) → Each (With tag) (reads_of tag h.reads)
  reads_with tag = each_map (OfTag Time tag) (With tag) (λ x q. (q.1, q.0)) (reads_of tag h.reads) (reads-each Time tag h.reads ok.reads)

  write_with : (tag : ℕ) → 1 ≤ tag → tag ≤ h.tags → With tag (h.write tag)
  write_with tag l k = ((ok.writes tag l k).tag, (ok.writes tag l k).timed)

  timed : (tag : ℕ) → tag ≤ h.tags → Each (UpTo tag) (row_to h tag)
  unfolding row_to
  timed zero l = each_map (With 0) (UpTo 0) (λ x q. (omega (arith, q.0), q.1)) (reads_of 0 h.reads) (reads_with 0)
  timed (suc tag) l =
      each_append (UpTo (suc tag)) (row_to h tag) _
      (each_map (UpTo tag) (UpTo (suc tag)) (λ x q. (omega (arith, q.0), q.1)) (row_to h tag) (timed tag (omega arith)))
      (each_map (With (suc tag)) (UpTo (suc tag)) (λ x q. (omega (arith, q.0), q.1)) (h.write (suc tag) ∷ reads_of (suc tag) h.reads) (write_with (suc tag) (omega arith) l, reads_with (suc tag)))

  -- a READ ahead of another began no later, and the other ended behind its own begin
  reads_ordered : (tag : ℕ) → Pairs NotBefore (reads_of tag h.reads)
  reads_ordered tag =
      pairs-map Time NoLater NotBefore (λ x y timed q e f. omega (arith, q, (timed.high e f).0)) (reads_of tag h.reads)
      (reads_only Time tag h.reads ok.reads) (reads_pairs NoLater tag h.reads ok.order)

  later : (x y : Transaction) → Time x → Time y → tags_at x.begin < y.tag → NotBefore x y
  later = not-before h.clock tags_at ok.rising

  ordered : (tag : ℕ) → tag ≤ h.tags → Pairs NotBefore (row_to h tag)
  unfolding row_to
  ordered zero l = reads_ordered 0
  ordered (suc tag) l =
      let w = h.write (suc tag) in
      let rs = reads_of (suc tag) h.reads in
      let wk = ok.writes (suc tag) (omega arith) l in
      pairs-append NotBefore (row_to h tag) (w ∷ rs) (ordered tag (omega arith))
      (each_map (With (suc tag)) (NotBefore w) (λ y q. later w y wk.timed q.1 (omega (arith, wk.timed.above wk.kind, wk.tag, q.0))) rs (reads_with (suc tag)), reads_ordered (suc tag))
      (each_map (UpTo tag) (λ x. Each (NotBefore x) (w ∷ rs))
      (λ x u. each_map (With (suc tag)) (NotBefore x) (λ y q. later x y u.1 q.1 (omega (arith, u.1.low, u.0, q.0))) (w ∷ rs) (write_with (suc tag) (omega arith) l, reads_with (suc tag)))
      (row_to h tag) (timed tag (omega arith)))

  real_time_lem : RealTime (row h)
  real_time_lem m n end lm ln f l =
      by-test (ltb m n)
      (λ b. ltb-true _ _ b)
      (λ b. let g : n ≤ m = ltb-false m n b in
      by_equal m n
      (λ e. let u = each_at (UpTo h.tags) no_write (row h) (timed h.tags (omega arith)) m lm in
      let v : end < (at (row h) m).begin = rw e l in
      let z : ⊥ = omega (arith, (u.1.high end f).0) in absurd z)
      (λ d. let z : ⊥ = omega (arith, pairs_at NotBefore no_write (row h) (ordered h.tags (omega arith)) n m (omega arith) lm end f) in absurd z))

  row_ends : (tag : ℕ) → tag ≤ h.tags → Each (EndsAt h.extra) (row_to h tag)
  unfolding row_to
  row_ends zero l = reads_only (EndsAt h.extra) 0 h.reads ok.ends
  row_ends (suc tag) l =
      each_append (EndsAt h.extra) (row_to h tag) _ (row_ends tag (omega arith))
      (λ e. absurd (not-both (ok.writes (suc tag) (omega arith) l).kind e), reads_only (EndsAt h.extra) (suc tag) h.reads ok.ends)

  whole : Each (λ x. x.tag ≤ h.tags) h.reads
  whole = each_map (Shown h) (λ x. x.tag ≤ h.tags) (λ x q. q.1) h.reads ok.shown

  pub claimed : (steps : List Played) → Each Answers steps → Claim steps h
  claimed steps answered = record {
    walk = (walk_to h.tags (omega arith)).0;
    whole = whole;
    complete = row-complete h whole;
    real_time = real_time_lem;
    answered = answered;
    ends = row_ends h.tags (omega arith);
    unfinished = ok.unfinished;
    tags = ok.tags;
    whose = ok.whose;
  }
