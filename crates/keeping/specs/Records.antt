-- The records: a client's record in progress, over a record begun, tagged or ended.
use Rattle.std.specs.Prelude.{ℕ, ◌+◌, ◌<◌, ◌≡◌, refl, Bool, true, false, List, [], ◌∷◌, get_or, length, eqb}
use Rattle.std.proofs.Common.{sym, ◌∙◌, ap, arith, eq-eqb, ne_eqb, eqb-true}
use Rattle.std.proofs.Math.Bool.{and-false}
use Rattle.ranges.specs.Tests.{by_equal, both_left}
use Rattle.ranges.specs.Sum.{count_below, one}
use Rattle.ranges.specs.SumLaws.{sum_same, sum-set, sum_more, one-true, one-false}
use Rattle.tables.specs.Rows.{HasRow, row_same, row_other, row-length, word_same, word_other}
use Rattle.tables.specs.Layout.{record_width, record_word, put_begun, client_of_record, tag_of_record, end_of_record}
use Rattle.tables.specs.Tables.{Tables, clients_of, state_of, record_of}
use Rattle.rules.specs.Common.{ended_record, tagged_record}
use Rattle.soundness.specs.Sound.{is_open, open_sound}
use Rattle.soundness.specs.Facts.{Doing, doing_facts, facts_doing, none_facts, facts-none}

-- The record list changed, but for this client no record in progress came or went.
module _ (records records' : List ℕ) (begun q place : ℕ) (same : (n : ℕ) → n < begun → is_open records' q n ≡ is_open records q n) where
  pub count_kept : count_below (is_open records' q) begun ≡ count_below (is_open records q) begun
  count_kept = sum_same (λ n. one (is_open records' q n)) (λ n. one (is_open records q n)) begun (λ n h. ap one (same n h))

  pub open_kept : (doing : Bool) → open_sound doing records begun q place ≡ true → open_sound doing records' begun q place ≡ true
  open_kept true e =
      let d = doing_facts records begun q place e in
      facts_doing records' begun q place (record { once = count_kept ∙ d.once; within = d.within; here = same place d.within ∙ d.here })
  open_kept false e = facts-none records' begun q place (count_kept ∙ none_facts records begun q place e)

  -- one record more, of another client
  pub open_other : is_open records' q begun ≡ false → (doing : Bool) → open_sound doing records begun q place ≡ true → open_sound doing records' (begun + 1) q place ≡ true
  open_other f true e =
      let d = doing_facts records begun q place e in
      facts_doing records' (begun + 1) q place (record {
        once = omega (arith, sum_more (λ n. one (is_open records' q n)) begun, one-false f, count_kept, d.once);
        within = omega (arith, d.within);
        here = same place d.within ∙ d.here;
      })
  open_other f false e = facts-none records' (begun + 1) q place (omega (arith, sum_more (λ n. one (is_open records' q n)) begun, one-false f, count_kept, none_facts records begun q place e))

  -- one record more, its own: from none to one
  pub open_own : is_open records' q begun ≡ true → open_sound false records begun q place ≡ true → open_sound true records' (begun + 1) q begun ≡ true
  open_own f e =
      facts_doing records' (begun + 1) q begun (record {
        once = omega (arith, sum_more (λ n. one (is_open records' q n)) begun, one-true f, count_kept, none_facts records begun q place e);
        within = omega arith;
        here = f;
      })

-- its record in progress ends: from one to none
pub open-ended : (records records' : List ℕ) (begun q place place' : ℕ) → ((n : ℕ) → n < begun → (n ≡ place → ⊥) → is_open records' q n ≡ is_open records q n) → is_open records' q place ≡ false →
    open_sound true records begun q place ≡ true → open_sound false records' begun q place' ≡ true
open-ended records records' begun q place place' same f e =
    let d = doing_facts records begun q place e in
    facts-none records' begun q place'
    (omega (
      arith,
      sum-set (λ n. one (is_open records' q n)) (λ n. one (is_open records q n)) begun place d.within (λ n h z. ap one (same n h z)),
      one-true d.here,
      one-false f,
      d.once,
    ))

-- none is none, whatever the place
pub open-idle : (records : List ℕ) (begun q place place' : ℕ) → open_sound false records begun q place ≡ true → open_sound false records begun q place' ≡ true
open-idle records begun q place place' e = facts-none records begun q place' (none_facts records begun q place e)

-- a record that is one client's is no other's
pub not_open : (records : List ℕ) (p q n : ℕ) → (p ≡ q → ⊥) → record_word records n client_of_record ≡ q → is_open records p n ≡ false
not_open records p q n d e = rw (ne_eqb (record_word records n client_of_record) p (λ z. d (sym z ∙ e)))

pub open-client : (records : List ℕ) (q n : ℕ) → is_open records q n ≡ true → record_word records n client_of_record ≡ q
open-client records q n e = eqb-true _ _ (both_left (eqb (record_word records n client_of_record) q) (eqb (record_word records n end_of_record) 0) e)

-- whether a record is open goes by two of its words
pub open-words : (records records' : List ℕ) (q n : ℕ) → record_word records' n client_of_record ≡ record_word records n client_of_record →
    record_word records' n end_of_record ≡ record_word records n end_of_record → is_open records' q n ≡ is_open records q n
open-words records records' q n c e = rw (c, e)

-- A tag put into a record: no record in progress comes or goes.
module _ (records : List ℕ) (place tag : ℕ) where
  pub tagged-word : (n f : ℕ) → f < record_width → (f ≡ tag_of_record → ⊥) → record_word (tagged_record place tag records) n f ≡ record_word records n f
  tagged-word n f h d = word_other record_width records place tag_of_record tag n f (omega arith) h (λ e. d e.1)

  pub tagged_other : (n f : ℕ) → f < record_width → (n ≡ place → ⊥) → record_word (tagged_record place tag records) n f ≡ record_word records n f
  tagged_other n f h d = word_other record_width records place tag_of_record tag n f (omega arith) h (λ e. d e.0)

  pub tagged-here : HasRow record_width records place → record_word (tagged_record place tag records) place tag_of_record ≡ tag
  tagged-here h = word_same record_width records place tag_of_record tag h (omega arith)

  pub tagged_open : (q n : ℕ) → is_open (tagged_record place tag records) q n ≡ is_open records q n
  tagged_open q n = open-words records (tagged_record place tag records) q n (tagged-word n client_of_record (omega arith) (λ e. omega arith)) (tagged-word n end_of_record (omega arith) (λ e. omega arith))

-- An end put into a record.
module _ (records : List ℕ) (place step : ℕ) where
  pub ended-word : (n f : ℕ) → f < record_width → (f ≡ end_of_record → ⊥) → record_word (ended_record place step records) n f ≡ record_word records n f
  ended-word n f h d = word_other record_width records place end_of_record step n f (omega arith) h (λ e. d e.1)

  ended_other : (q n : ℕ) → (n ≡ place → ⊥) → is_open (ended_record place step records) q n ≡ is_open records q n
  ended_other q n d = open-words records (ended_record place step records) q n (ended-word n client_of_record (omega arith) (λ e. omega arith)) (word_other record_width records place end_of_record step n end_of_record (omega arith) (omega arith) (λ e. d e.0))

  module _ (begun q : ℕ) (d : Doing records begun q place) where
    -- for the other clients nothing comes or goes
    pub ended_others : (p n : ℕ) → (p ≡ q → ⊥) → is_open (ended_record place step records) p n ≡ is_open records p n
    ended_others p n e =
        by_equal n place
        (λ z. rw z (not_open (ended_record place step records) p q place e (ended-word place client_of_record (omega arith) (λ y. omega arith) ∙ open-client records q place d.here)
        ∙ sym (not_open records p q place e (open-client records q place d.here))))
        (λ z. ended_other p n z)

    -- the client itself has none in progress any more
    pub ended-own : (place' : ℕ) → HasRow record_width records place → 0 < step → open_sound false (ended_record place step records) begun q place' ≡ true
    ended-own place' h s =
        open-ended records (ended_record place step records) begun q place place' (λ n l z. ended_other q n z)
        (rw (word_same record_width records place end_of_record step h (omega arith), ne_eqb step 0 (λ e. omega arith)) (and-false (eqb (record_word (ended_record place step records) place client_of_record) q)))
        (facts_doing records begun q place d)

-- A record begun in the next place.
module _ (records : List ℕ) (begun q number step badge : ℕ) where
  abbrev row : List ℕ
  row = q ∷ number ∷ 0 ∷ step ∷ 0 ∷ badge ∷ []

  pub begun-word : (n f : ℕ) → f < record_width → (n ≡ begun → ⊥) →
      record_word (put_begun records begun q number step badge) n f ≡ record_word records n f
  begun-word n f h d = row_other record_width records begun row n f (omega arith) h d

  pub begun-here : (f : ℕ) → f < record_width → HasRow record_width records begun →
      record_word (put_begun records begun q number step badge) begun f ≡ get_or row f 0
  begun-here f h r = row_same record_width records begun row f r (omega arith) h

  pub begun_places : length (put_begun records begun q number step badge) ≡ length records
  begun_places = row-length record_width records begun row

  pub begun_open : (p n : ℕ) → n < begun → is_open (put_begun records begun q number step badge) p n ≡ is_open records p n
  begun_open p n h =
      open-words records (put_begun records begun q number step badge) p n
      (begun-word n client_of_record (omega arith) (λ e. omega arith)) (begun-word n end_of_record (omega arith) (λ e. omega arith))

  module _ (r : HasRow record_width records begun) where
    pub begun_others : (p place : ℕ) → (p ≡ q → ⊥) → (doing : Bool) → open_sound doing records begun p place ≡ true →
        open_sound doing (put_begun records begun q number step badge) (begun + 1) p place ≡ true
    begun_others p place d =
        open_other records (put_begun records begun q number step badge) begun p place (begun_open p)
        (not_open (put_begun records begun q number step badge) p q begun d (begun-here client_of_record (omega arith) r))

    pub begun-own : (place : ℕ) → open_sound false records begun q place ≡ true →
        open_sound true (put_begun records begun q number step badge) (begun + 1) q begun ≡ true
    begun-own place e =
        open_own records (put_begun records begun q number step badge) begun q place (begun_open q)
        (rw (begun-here client_of_record (omega arith) r, begun-here end_of_record (omega arith) r, eq-eqb q q refl)) e

-- Over all clients, for one kind of transaction: `kind` tells the states that do it. A step of client q leaves the others their states and places.
module _ (kind : ℕ → Bool) (q : ℕ) (t t' : Tables) (records : List ℕ) (begun : ℕ)
    (state : (p : ℕ) → (p ≡ q → ⊥) → state_of t' p ≡ state_of t p) (place : (p : ℕ) → (p ≡ q → ⊥) → record_of t' p ≡ record_of t p)
    (before : (p : ℕ) → p < clients_of t → open_sound (kind (state_of t p)) records begun p (record_of t p) ≡ true) where
  abbrev Records : List ℕ → ℕ → Type 0
  Records records' begun' = (p : ℕ) → p < clients_of t → open_sound (kind (state_of t' p)) records' begun' p (record_of t' p) ≡ true

  -- the client goes on as before
  pub records-same : kind (state_of t' q) ≡ kind (state_of t q) → record_of t' q ≡ record_of t q → Records records begun
  records-same k l p h = by_equal p q (λ e. rw (e, k, l) (before q (rw e at h))) (λ d. rw (state p d, place p d) (before p h))

  -- the client did nothing of the kind, and does nothing of it now
  pub records-idle : kind (state_of t q) ≡ false → kind (state_of t' q) ≡ false → Records records begun
  records-idle k l p h =
      by_equal p q
      (λ e. rw (e, l) (open-idle records begun q (record_of t q) (record_of t' q) (rw k at (before q (rw e at h)))))
      (λ d. rw (state p d, place p d) (before p h))

  -- the client begins one
  pub records-begun : (number step badge : ℕ) → HasRow record_width records begun → kind (state_of t q) ≡ false →
      kind (state_of t' q) ≡ true → record_of t' q ≡ begun → Records (put_begun records begun q number step badge) (begun + 1)
  records-begun number step badge room k l here p h =
      by_equal p q
      (λ e. rw (e, l, here) (begun-own records begun q number step badge room (record_of t q) (rw k at (before q (rw e at h)))))
      (λ d. rw (state p d, place p d) (begun_others records begun q number step badge room p (record_of t p) d (kind (state_of t p)) (before p h)))

  -- the client ends its own
  pub records-ended : (step : ℕ) → Doing records begun q (record_of t q) → HasRow record_width records (record_of t q) → 0 < step → kind (state_of t' q) ≡ false → Records (ended_record (record_of t q) step records) begun
  records-ended step own room late l p h =
      by_equal p q
      (λ e. rw (e, l) (ended-own records (record_of t q) step begun q own (record_of t' q) room late))
      (λ d. rw (state p d, place p d)
      (open_kept records (ended_record (record_of t q) step records) begun p (record_of t p) (λ n g. ended_others records (record_of t q) step begun q own p n d) (kind (state_of t p)) (before p h)))
