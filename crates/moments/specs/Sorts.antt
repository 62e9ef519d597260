-- WRITEs and READs alike: a sort of transactions has the states that do it, its records and their number. Sound tables tell which are in
-- progress: those whose record has no end.
use Rattle.std.specs.Prelude.{ℕ, ◌≤◌, ◌<◌, ◌≡◌, refl, Bool, true, false, cond, ◌&&◌, List, eqb}
use Rattle.std.proofs.Common.{sym, ◌∙◌, arith, eq-eqb, ne_eqb, eqb-true}
use Rattle.ranges.specs.Tests.{by_equal, by-test, both, both_left, both_right}
use Rattle.ranges.specs.AllLaws.{any_at, any_of}
use Rattle.ranges.specs.Sum.{count_below, one}
use Rattle.ranges.specs.SumLaws.{sum-part, sum-set, one-true}
use Rattle.tables.specs.Layout.{record_word, client_of_record, end_of_record}
use Rattle.tables.specs.Tables.{Tables, clients_of, writes_of, reads_of, state_of, record_of}
use Rattle.soundness.specs.Sound.{is_writing, is_reading, is_open, open_sound}
use Rattle.soundness.specs.Facts.{Sound, Doing, doing_facts, none_facts}
use Rattle.moments.specs.Claim.{at_work}

pub record Sort : Type 0 where
  pub kind : ℕ → Bool
  pub records : Tables → List ℕ
  pub begun : Tables → ℕ
  -- what sound tables say of its records
  pub opens : (t : Tables) → Sound t → (q : ℕ) → q < clients_of t → open_sound (kind (state_of t q)) (records t) (begun t) q
      (record_of t q) ≡ true
  pub owner : (t : Tables) → Sound t → (n : ℕ) → n < begun t → record_word (records t) n client_of_record < clients_of t

abbrev pub writes : Sort
writes = record {
  kind = is_writing;
  records = λ t. t.writes;
  begun = writes_of;
  opens = λ t s q l. (s.records q l).write;
  owner = λ t s n l. (s.write n l).client;
}

abbrev pub reads : Sort
reads = record {
  kind = is_reading;
  records = λ t. t.reads;
  begun = reads_of;
  opens = λ t s q l. (s.records q l).read;
  owner = λ t s n l. (s.read n l).client;
}

-- a record that is open for a client with one open record is that one
pub one_open : (records : List ℕ) (begun q m n : ℕ) → count_below (is_open records q) begun ≡ 1 → m < begun → n < begun →
    is_open records q m ≡ true → is_open records q n ≡ true → m ≡ n
one_open records begun q m n once lm ln em en =
    by_equal m n (λ e. e) (λ d.
    let g : ℕ → ℕ = λ j. one (is_open records q j) in
    let f : ℕ → ℕ = λ j. cond (eqb j m) 0 (g j) in
    let rest = sum-set f g begun m lm (λ j h z. rw (ne_eqb j m z)) in
    let none : f m ≡ 0 = rw (eq-eqb m m refl) in
    let some : f n ≡ 1 = rw (ne_eqb n m (λ z. d (sym z))) (one-true en) in
    let z : ⊥ = omega (arith, rest, none, one-true em, once, sum-part f begun n ln, some) in absurd z)

-- an open record has no end
pub open-end : (records : List ℕ) (q n : ℕ) → is_open records q n ≡ true → record_word records n end_of_record ≡ 0
open-end records q n e = eqb-true _ _ (both_right (eqb (record_word records n client_of_record) q)
    (eqb (record_word records n end_of_record) 0) e)

module _ (sort : Sort) (t : Tables) (s : Sound t) where
  abbrev pub end : ℕ → ℕ
  end n = record_word (sort.records t) n end_of_record

  -- the client that is at it
  working : (q n : ℕ) → q < clients_of t → (sort.kind (state_of t q) && eqb (record_of t q) n) ≡ true → (n < sort.begun t) × (end n ≡ 0)
  working q n l e =
      let k : sort.kind (state_of t q) ≡ true = both_left (sort.kind (state_of t q)) (eqb (record_of t q) n) e in
      let p : record_of t q ≡ n = eqb-true _ _ (both_right (sort.kind (state_of t q)) (eqb (record_of t q) n) e) in
      let d : Doing (sort.records t) (sort.begun t) q (record_of t q) =
      doing_facts (sort.records t) (sort.begun t) q (record_of t q) (rw k at (sort.opens t s q l)) in
      (rw p at d.within, rw p at (open-end (sort.records t) q (record_of t q) d.here))

  pub work_facts : (n : ℕ) → at_work sort.kind t n ≡ true → (n < sort.begun t) × (end n ≡ 0)
  work_facts n e = let f = any_of (λ q. sort.kind (state_of t q) && eqb (record_of t q) n) (clients_of t) e in working f.0 n f.1 f.2

  -- a record without an end has its client at work
  pub open_works : (n : ℕ) → n < sort.begun t → end n ≡ 0 → at_work sort.kind t n ≡ true
  open_works n l z =
      let q = record_word (sort.records t) n client_of_record in
      let lq = sort.owner t s n l in
      let mine : is_open (sort.records t) q n ≡ true = both (eqb q q) (eqb (end n) 0) (eq-eqb q q refl) (eq-eqb _ _ z) in
      by-test (sort.kind (state_of t q))
      (λ k. let d = doing_facts (sort.records t) (sort.begun t) q (record_of t q) (rw k at (sort.opens t s q lq)) in
      let here : record_of t q ≡ n = one_open (sort.records t) (sort.begun t) q (record_of t q) n d.once d.within l d.here mine in
      any_at (λ q. sort.kind (state_of t q) && eqb (record_of t q) n) (clients_of t) q lq (both _ _ k (eq-eqb _ _ here)))
      (λ k. let none = none_facts (sort.records t) (sort.begun t) q (record_of t q) (rw k at (sort.opens t s q lq)) in
      let y : ⊥ = omega (arith, none, sum-part (λ j. one (is_open (sort.records t) q j)) (sort.begun t) n l, one-true mine) in absurd y)
