-- "READs begun … equal to those finished plus those in progress": on sound tables this follows from the records, by counting the unfinished ones by client.
use Prim.Native.Nat.{ℕ, zero, suc, ◌+◌, ◌<◌}
use Rattle.std.specs.Prelude.{◌≡◌, refl, Bool, true, false, not, ◌&&◌, List}
use Rattle.std.proofs.Common.{sym, eq-eqb, ne_eqb}
use native.Mathlib.Omega.{arith}
use Rattle.std.proofs.Math.Dec.{eqb}
use Rattle.ranges.specs.Sum.{sum_below, count_below, one}
use Rattle.ranges.specs.SumLaws.{sum_same, sum-add, sum-nothing, sum-set, count-both}
use Rattle.tables.specs.Layout.{record_word, client_of_record, end_of_record}
use Rattle.tables.specs.Tables.{Tables, clients_of, reads_of, state_of, record_of}
use Rattle.soundness.specs.Sound.{is_reading, is_open, open_sound}
use Rattle.soundness.specs.Facts.{Sound, doing_facts, none_facts}

-- one of the numbers below p is c: a test of it counts once
count-one : (c : ℕ) (b : Bool) (p : ℕ) → c < p → sum_below (λ q. one (eqb c q && b)) p ≡ one b
count-one c b p h =
    let s = sum-set (λ q. one (eqb c q && b)) (λ q. 0) p c h (λ q l d. rw (ne_eqb c q (λ e. d (sym e)))) in
    let z : sum_below (λ q. 0) p ≡ 0 = sum-nothing (λ q. 0) p (λ q l. refl) in
    let o : one (eqb c c && b) ≡ one b = rw (eq-eqb c c refl) in
    omega arith

-- the records that pass, counted by client, are all that pass
module _ (client : ℕ → ℕ) (test : ℕ → Bool) (p : ℕ) where
  count_by-client : (n : ℕ) → ((m : ℕ) → m < n → client m < p) → sum_below (λ q. count_below (λ m. eqb (client m) q && test m) n) p ≡ count_below test n
  unfolding sum_below
  count_by-client zero h = omega (arith, sum-nothing (λ q. 0) p (λ q l. refl))
  count_by-client (suc n) h =
      omega (
        arith,
        sum-add (λ q. count_below (λ m. eqb (client m) q && test m) n) (λ q. one (eqb (client n) q && test n)) _ p (λ q l. refl),
        count_by-client n (λ m l. h m (omega arith)),
        count-one (client n) (test n) p (h n (omega arith)),
      )

abbrev pub is_finished : List ℕ → ℕ → Bool
is_finished records n = not (eqb (record_word records n end_of_record) 0)

-- a client has one record in progress where it is doing a transaction of that kind, and else none
open-count : (doing : Bool) (records : List ℕ) (begun q place : ℕ) → open_sound doing records begun q place ≡ true → count_below (is_open records q) begun ≡ one doing
open-count true records begun q place e = (doing_facts records begun q place e).once
open-count false records begun q place e = none_facts records begun q place e

pub reads_balance : (t : Tables) → Sound t → reads_of t ≡ count_below (is_finished t.reads) (reads_of t) + count_below (λ q. is_reading (state_of t q)) (clients_of t)
reads_balance t s =
    let n = reads_of t in
    let p = clients_of t in
    let same : sum_below (λ q. count_below (is_open t.reads q) n) p ≡ count_below (λ q. is_reading (state_of t q)) p =
    sum_same (λ q. count_below (is_open t.reads q) n) (λ q. one (is_reading (state_of t q))) p (λ q h. open-count (is_reading (state_of t q)) t.reads n q (record_of t q) (s.records q h).read) in
    let all = count_by-client (λ m. record_word t.reads m client_of_record) (λ m. eqb (record_word t.reads m end_of_record) 0) p n (λ m h. (s.read m h).client) in
    omega (arith, count-both (λ m. eqb (record_word t.reads m end_of_record) 0) n)
