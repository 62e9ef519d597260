-- One step more has its number: what was told before is told alike. And records that a step leaves, all but one.
use Rattle.std.specs.Prelude.{ℕ, suc, ◌+◌, ◌≤◌, ◌<◌, ◌≡◌, refl, Bool, true, false, not, List, [], ◌∷◌, ◌++◌, length, eqb, ltb}
use Rattle.std.proofs.Common.{sym, ap, ◌∙◌, append-nil, arith, length-append, get_or-append-add, ne_eqb, ltb-true, ltb-false, lt-ltb, le-ltb}
use Rattle.std.proofs.Math.Option.{Option, none, some}
use Rattle.std.proofs.Math.ListN.{get_or-append}
use Rattle.ranges.specs.Tests.{by_equal, by-test, not-both}
use Rattle.ranges.specs.Each.{Each, each_append, each_map}
use Rattle.ranges.specs.Inserted.{inserted}
use Rattle.tables.specs.Rows.{word_other}
use Rattle.tables.specs.Layout.{record_width, record_word, client_of_record, number_of_record, tag_of_record, begin_of_record, end_of_record, put_begun}
use Rattle.tables.specs.Tables.{Tables, state_of, record_of}
use Rattle.rules.specs.Common.{idle, ended_record, tagged_record}
use Rattle.soundness.specs.Sound.{is_writing, is_reading}
use Rattle.keeping.specs.Records.{begun-word, tagged_other}
use Rattle.listing.specs.Register.{is_finished, begin_in, finished_below}
use Rattle.listing.specs.Places.{each_passes, places-more}
use Rattle.listing.specs.Changes.{places_same, places_added, ByBegin}
use Rattle.claim.specs.History.{Transaction, Doing, nothing, writing, tagged, reading}
use Rattle.serial.proofs.Lists.{pairs-append, pairs_at}
use Rattle.listed_order.specs.Order.{Particulars, of_record, number_at, end_number}
use Rattle.register_order.specs.Lists.{Both, both-map, both-inserted}
use Rattle.register_order.specs.Agreement.{Numbered, EndKnown, Tells, OneWrite, of_read, ReadsTold}
use Rattle.register_order.specs.Agreement.{Activity}

-- ---- the step numbers, with one more

module _ (numbers : List ℕ) (n : ℕ) where
  abbrev pub more : List ℕ
  more = numbers ++ (n ∷ [])

  pub more-length : length more ≡ suc (length numbers)
  more-length = omega (arith, length-append numbers (n ∷ []))

  pub number-last : number_at more (length numbers) ≡ n
  number-last = let e : length numbers + 0 ≡ length numbers = omega arith in rw e at (get_or-append-add numbers (n ∷ []) 0 0)

  pub number_more : (clock : ℕ) → clock < length numbers → number_at more clock ≡ number_at numbers clock
  number_more clock h = get_or-append numbers (n ∷ []) 0 clock h

  end_more : (end : Option ℕ) → EndKnown (length numbers) end → end_number more end ≡ end_number numbers end
  end_more none k = refl
  end_more (some clock) k = number_more clock k

  known_more : (end : Option ℕ) → EndKnown (length numbers) end → EndKnown (length more) end
  known_more none k = tt
  known_more (some clock) k = omega (arith, more-length)

  pub numbered_more : (step : ℕ) → step ≤ n → Numbered numbers step → Numbered more n
  numbered_more step l k =
      let most = each_map (λ m. m ≤ step) (λ m. m ≤ n) (λ m h. omega arith) numbers k.most in
      record {
        rise = pairs-append (λ m o. m ≤ o) numbers (n ∷ []) k.rise (tt, tt)
            (each_map (λ m. m ≤ n) (λ m. Each (λ o. m ≤ o) (n ∷ [])) (λ m h. (h, tt)) numbers most);
        most = each_append (λ m. m ≤ n) numbers (n ∷ []) most (omega arith, tt);
      }

  pub tells_more : (x : Transaction) (e : Particulars) → Tells numbers x e → Tells more x e
  tells_more x e r =
      record { is = rw (number_more x.begin r.begun, end_more x.end r.ended) r.is; begun = omega (arith, more-length, r.begun); ended = known_more x.end r.ended }

pub tells_as : (numbers : List ℕ) (x : Transaction) {e e' : Particulars} → e' ≡ e → Tells numbers x e → Tells numbers x e'
tells_as numbers x same r = record { is = r.is ∙ sym same; begun = r.begun; ended = r.ended }

-- of two steps the one with the lower number came first
number-before : (numbers : List ℕ) (step : ℕ) → Numbered numbers step →
    (c d : ℕ) → c < length numbers → number_at numbers c < number_at numbers d → c < d
number-before numbers step k c d known lower =
    by-test (ltb c d)
    (λ b. ltb-true _ _ b)
    (λ b.
    by_equal d c
    (λ e. let z : number_at numbers c < number_at numbers c = rw e at lower in let no : ⊥ = omega arith in absurd no)
    (λ ne.
    let no : ⊥ = omega (arith, ltb-false c d b, pairs_at (λ m o. m ≤ o) 0 numbers k.rise d c (omega (arith, ltb-false c d b)) known) in
    absurd no))

-- Of two records that stand in order of begin, the steps at which they began come in the order of their places.
pub begun-before : (records : List ℕ) (n step : ℕ) → ByBegin records n step → (numbers : List ℕ) (step' : ℕ) → Numbered numbers step' →
    (i j : ℕ) → i < n → j < n → (j ≡ i → ⊥) → (c d : ℕ) → c < length numbers → d < length numbers →
    number_at numbers c ≡ begin_in records i → number_at numbers d ≡ begin_in records j → ltb i j ≡ ltb c d
begun-before records n step b numbers step' k i j hi hj apart c d hc hd ci dj =
    by-test (ltb i j)
    (λ e.
    let l = b.rise i j (ltb-true _ _ e) hj in
    rw (e, lt-ltb c d (number-before numbers step' k c d hc (omega arith))))
    (λ e.
    let l = b.rise j i (omega (arith, ltb-false i j e)) hi in
    let later = number-before numbers step' k d c hd (omega arith) in
    rw (e, le-ltb c d (omega arith)))

-- ---- records that a step leaves, all but one

abbrev pub But : List ℕ → List ℕ → ℕ → Type 0
But records records' here = (place f : ℕ) → f < record_width → (place ≡ here → ⊥) → record_word records' place f ≡ record_word records place f

-- a record that stays
abbrev pub Alike : List ℕ → List ℕ → ℕ → Type 0
Alike records records' place = (f : ℕ) → f < record_width → record_word records' place f ≡ record_word records place f

pub of_alike : (is_write : Bool) (mask : ℕ) (records records' : List ℕ) (place : ℕ) → Alike records records' place → of_record is_write mask records' place ≡ of_record is_write mask records place
of_alike is_write mask records records' place w = rw (w tag_of_record (omega arith), w client_of_record (omega arith), w begin_of_record (omega arith), w end_of_record (omega arith))

pub read_alike : (records records' : List ℕ) (place : ℕ) → Alike records records' place → of_read records' place ≡ of_read records place
read_alike records records' place w = rw (w number_of_record (omega arith)) (of_alike false (record_word records place number_of_record) records records' place w)

pub begun_but : (records : List ℕ) (begun q number step badge : ℕ) → But records (put_begun records begun q number step badge) begun
begun_but records begun q number step badge place f h d = begun-word records begun q number step badge place f h d

pub tagged_but : (records : List ℕ) (place tag : ℕ) → But records (tagged_record place tag records) place
tagged_but records here tag place f h d = tagged_other records here tag place f h d

pub ended_but : (records : List ℕ) (place step : ℕ) → But records (ended_record place step records) place
ended_but records here step place f h d = word_other record_width records here end_of_record step place f (omega arith) h (λ e. d e.0)

-- the one WRITE of a tag is another record's
pub one_but : (writes writes' : List ℕ) (begun begun' : ℕ) (numbers : List ℕ) (tag : ℕ) (x : Transaction) (here : ℕ) (o : OneWrite writes begun numbers tag x) → But writes writes' here → (o.place ≡ here → ⊥) →
    (record_word writes' here tag_of_record ≡ tag → ⊥) → begun ≤ begun' → ((i : ℕ) → i < begun' → (i ≡ here → ⊥) → i < begun) → OneWrite writes' begun' numbers tag x
one_but writes writes' begun begun' numbers tag x here o but apart not-here room before =
    record {
      place = o.place;
      within = omega (arith, o.within);
      bears = but o.place tag_of_record (omega arith) apart ∙ o.bears;
      unique = λ i l e. by_equal i here (λ d. absurd (not-here (rw d at e))) (λ d. o.unique i (before i l d) (sym (but i tag_of_record (omega arith) d) ∙ e));
      tells = tells_as numbers x (of_alike true 0 writes writes' o.place (λ f h. but o.place f h apart)) o.tells;
    }

pub one_more : (writes : List ℕ) (begun : ℕ) (numbers : List ℕ) (tag : ℕ) (x : Transaction) (n : ℕ) → OneWrite writes begun numbers tag x → OneWrite writes begun (more numbers n) tag x
one_more writes begun numbers tag x n o = record { place = o.place; within = o.within; bears = o.bears; unique = o.unique; tells = tells_more numbers n x _ o.tells }

-- ---- the READs

abbrev ToldBy : List ℕ → List ℕ → ℕ → Transaction → Type 0
ToldBy reads numbers place x = Tells numbers x (of_read reads place)

pub reads_more : (reads : List ℕ) (begun : ℕ) (numbers : List ℕ) (xs : List Transaction) (n : ℕ) →
    ReadsTold reads begun numbers xs → ReadsTold reads begun (more numbers n) xs
reads_more reads begun numbers xs n r =
    both-map (ToldBy reads numbers) (ToldBy reads (more numbers n)) (λ place. Unit {0})
    (λ place x u y. tells_more numbers n x (of_read reads place) y)
    (finished_below reads begun) xs (each_passes (λ place. Unit {0}) (is_finished reads) begun (λ place l f. tt)) r

module _ (reads reads' : List ℕ) (here : ℕ) (but : But reads reads' here) (numbers : List ℕ) (xs : List Transaction) where
  finished_but : (i : ℕ) → (i ≡ here → ⊥) → is_finished reads' i ≡ is_finished reads i
  finished_but i d = ap (λ (end : ℕ). not (eqb end 0)) (but i end_of_record (omega arith) d)

  told_but : (begun : ℕ) → ((i : ℕ) → i < begun → is_finished reads i ≡ true → i ≡ here → ⊥) →
      ReadsTold reads begun numbers xs → Both (ToldBy reads' numbers) (finished_below reads begun) xs
  told_but begun apart r =
      both-map (ToldBy reads numbers) (ToldBy reads' numbers) (λ i. i ≡ here → ⊥)
      (λ i x d y. tells_as numbers x (read_alike reads reads' i (λ f h. but i f h d)) y)
      (finished_below reads begun) xs (each_passes (λ i. i ≡ here → ⊥) (is_finished reads) begun apart) r

  -- a READ begun is not listed yet
  pub reads-begun : record_word reads' here end_of_record ≡ 0 → ReadsTold reads here numbers xs → ReadsTold reads' (here + 1) numbers xs
  reads-begun open' r =
      let last : is_finished reads' here ≡ false = rw open' in
      let same = places_same (is_finished reads) (is_finished reads') here (λ i l. finished_but i (λ e. omega arith)) in
      rw (places-more (is_finished reads') here, last, append-nil (finished_below reads' here), same)
      (told_but here (λ i l f e. omega arith) r)

  -- a READ that ends is listed where it began
  pub reads-ended : (begun : ℕ) → here < begun → record_word reads here end_of_record ≡ 0 → (record_word reads' here end_of_record ≡ 0 → ⊥) →
      (x : Transaction) → ToldBy reads' numbers here x →
      ((p : ℕ) (y : Transaction) → p < begun → (p ≡ here → ⊥) → ToldBy reads numbers p y → ltb here p ≡ ltb x.begin y.begin) →
      ReadsTold reads begun numbers xs → ReadsTold reads' begun numbers (inserted (λ y. y.begin) x xs)
  reads-ended begun inside open' ends x new order r =
      let was : is_finished reads here ≡ false = rw open' in
      let is : is_finished reads' here ≡ true = ap not (ne_eqb (record_word reads' here end_of_record) 0 ends) in
      let apart : (i : ℕ) → is_finished reads i ≡ true → i ≡ here → ⊥ = λ i f e. not-both f (rw (e, open')) in
      let compared =
      both-map (ToldBy reads numbers) (λ p y. ltb here p ≡ ltb x.begin y.begin) (λ p. (p < begun) × (p ≡ here → ⊥))
      (λ p y l. order p y l.0 l.1)
      (finished_below reads begun) xs
      (each_passes (λ p. (p < begun) × (p ≡ here → ⊥)) (is_finished reads) begun (λ i l f. (l, apart i f))) r in
      rw (places_added (is_finished reads) (is_finished reads') here was is begun inside (λ i l d. finished_but i d))
      (both-inserted (ToldBy reads' numbers) (λ i. i) (λ y. y.begin) here x new (finished_below reads begun) xs
      (told_but begun (λ i l f. apart i f) r) compared)

-- ---- what a client is at

-- a client goes on with it: its record is where it was, and it still writes, reads or rests
pub record GoesOn (t t' : Tables) (q : ℕ) : Type 0 where
  pub place : record_of t' q ≡ record_of t q
  pub rests : state_of t q ≡ idle → state_of t' q ≡ idle
  pub writes : is_writing (state_of t q) ≡ true → is_writing (state_of t' q) ≡ true
  pub reads : is_reading (state_of t q) ≡ true → is_reading (state_of t' q) ≡ true

module _ {t t' : Tables} {q : ℕ} (place : record_of t' q ≡ record_of t q) where
  -- in the same state
  pub goes_same : state_of t' q ≡ state_of t q → GoesOn t t' q
  goes_same e = record { place = place; rests = λ z. e ∙ z; writes = λ z. rw e z; reads = λ z. rw e z }

  -- in another one of its kind
  pub goes_to : (state state' : ℕ) → state_of t q ≡ state → state_of t' q ≡ state' → (state ≡ idle → state' ≡ idle) →
      (is_writing state ≡ true → is_writing state' ≡ true) → (is_reading state ≡ true → is_reading state' ≡ true) → GoesOn t t' q
  goes_to state state' e e' i w r =
      record { place = place; rests = λ z. e' ∙ i (sym e ∙ z); writes = λ z. rw e' (w (rw e at z)); reads = λ z. rw e' (r (rw e at z)) }

-- then it is at the same, where its record in progress stays
module _ (t t' : Tables) (numbers : List ℕ) (n q : ℕ) (g : GoesOn t t' q)
    (writes : is_writing (state_of t q) ≡ true → Alike t.writes t'.writes (record_of t q))
    (reads : is_reading (state_of t q) ≡ true → Alike t.reads t'.reads (record_of t q)) where
  pub activity_on : (d : Doing) → Activity t numbers q d → Activity t' (more numbers n) q d
  activity_on nothing a = g.rests a
  activity_on (writing mask badge setpoints begin) a =
      let w = writes a.writes in
      record {
        writes = g.writes a.writes;
        tag = rw g.place (w tag_of_record (omega arith) ∙ a.tag);
        start = rw g.place (w begin_of_record (omega arith) ∙ a.start ∙ sym (number_more numbers n begin a.known));
        known = omega (arith, more-length numbers n, a.known);
      }
  activity_on (tagged tag) a =
      record { writes = g.writes a.writes; tag = rw g.place (writes a.writes tag_of_record (omega arith) ∙ a.tag) }
  activity_on (reading mask begin deliveries losses) a =
      let w = reads a.reads in
      record {
        reads = g.reads a.reads;
        masked = rw g.place (w number_of_record (omega arith) ∙ a.masked);
        start = rw g.place (w begin_of_record (omega arith) ∙ a.start ∙ sym (number_more numbers n begin a.known));
        known = omega (arith, more-length numbers n, a.known);
      }
