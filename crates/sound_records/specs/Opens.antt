-- The records without an end, counted for all sixteen clients in one pass: what the counts are when the first n records have been passed.
use Rattle.std.specs.Prelude.{ℕ, ◌+◌, ◌≤◌, ◌<◌, ◌≡◌, refl, Bool, true, false, not, List, length, get_or, set, replicate, eqb}
use Rattle.std.proofs.Math.Path.{sym}
use Rattle.std.proofs.Common.{◌∙◌, arith, length-set, get_or-set_same, get_or-set_other, eq-eqb, ne_eqb}
use Rattle.std.proofs.Math.Bool.{and-false}
use Rattle.ranges.specs.Tests.{by_equal, fails, holds, and_stops, and_goes_on}
use Rattle.ranges.specs.Sum.{count_below}
use Rattle.ranges.specs.SumLaws.{count-zero, count-here, count_past}
use Rattle.ranges.specs.Words.{zeros}
use Rattle.tables.specs.Layout.{record_word, client_of_record, end_of_record}
use Rattle.tables.specs.Tables.{Tables}
use Rattle.soundness.specs.Sound.{is_open, records_sound}
use Rattle.soundness.specs.Parts.{write_open_sound, read_open_sound}

pub record OpenCounts (records : List ℕ) (n : ℕ) (found : List ℕ) : Type 0 where
  pub whole : length found ≡ 16
  pub each : (q : ℕ) → q < 16 → get_or found q 0 ≡ count_below (is_open records q) n

module _ (records : List ℕ) where
  pub opens-none : OpenCounts records 0 (replicate 16 0)
  opens-none = record { whole = refl; each = λ q h. zeros 16 q ∙ sym (count-zero (is_open records q)) }

  module _ (n : ℕ) {found : List ℕ} (o : OpenCounts records n found) where
    -- a record that is open for no client below 16 leaves all counts
    same_counts : ((q : ℕ) → q < 16 → is_open records q n ≡ false) → OpenCounts records (n + 1) found
    same_counts f = record { whole = o.whole; each = λ q h. o.each q h ∙ sym (count_past (is_open records q) n (f q h)) }

    other-client : {w : ℕ} → w ≡ record_word records n client_of_record → (q : ℕ) → (w ≡ q → ⊥) → is_open records q n ≡ false
    other-client d q f = rw (← d, ne_eqb _ _ f)

    pub opens-ended : {e : ℕ} → e ≡ record_word records n end_of_record → (e ≡ 0 → ⊥) → OpenCounts records (n + 1) found
    opens-ended d f = same_counts (λ q h. rw (← d, ne_eqb _ _ f) (and-false (eqb (record_word records n client_of_record) q)))

    pub opens_beyond : {w : ℕ} → w ≡ record_word records n client_of_record → 16 ≤ w → OpenCounts records (n + 1) found
    opens_beyond d h = same_counts (λ q l. other-client d q (λ e. omega arith))

    -- an open record of a client counts for that client alone
    pub opens-more : {w e : ℕ} → w ≡ record_word records n client_of_record → w < 16 → e ≡ record_word records n end_of_record → e ≡ 0 → OpenCounts records (n + 1) (set found w (get_or found w 0 + 1))
    opens-more {w} {e} d h k z =
        record {
          whole = length-set found w (get_or found w 0 + 1) ∙ o.whole;
          each = λ q l.
              by_equal w q
              (λ s. let b : is_open records q n ≡ true = rw (← d, ← k, eq-eqb _ _ s, eq-eqb _ _ z) in
              rw (← s) (get_or-set_same found w (get_or found w 0 + 1) 0 (omega (arith, o.whole)) ∙ rw (o.each w h) (sym (count-here (is_open records w) n (rw (← s) at b)))))
              (λ f. get_or-set_other found w q (get_or found w 0 + 1) 0 (λ s. f (sym s)) ∙ o.each q l ∙ sym (count_past (is_open records q) n (other-client d q f)));
        }

-- a client's records are sound by those of its WRITEs, then by those of its READs
module _ (t : Tables) (q : ℕ) {r : Bool} (d : r ≡ write_open_sound t q) where
  pub writes-not-sound : not r ≡ true → false ≡ records_sound t q
  unfolding records_sound
  writes-not-sound e = sym (and_stops (read_open_sound t q) (fails d e))

  pub by-reads : {s : Bool} → not r ≡ false → s ≡ read_open_sound t q → s ≡ records_sound t q
  unfolding records_sound
  by-reads e k = sym (and_goes_on (read_open_sound t q) (holds d e) (sym k))
