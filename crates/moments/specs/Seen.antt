-- What the records of later tables tell of an earlier moment, and that a step keeps it so.
use Rattle.std.specs.Prelude.{ℕ, ◌+◌, ◌≤◌, ◌<◌, ◌≡◌, false, ltb}
use Rattle.std.proofs.Common.{sym, ◌∙◌, arith, ltb-true, ltb-false}
use Rattle.ranges.specs.Tests.{by_equal, by-test}
use Rattle.tables.specs.Layout.{record_word, begin_of_record, end_of_record}
use Rattle.tables.specs.Tables.{Tables, step_of}
use Rattle.soundness.specs.Facts.{Sound}
use Rattle.moments.specs.Claim.{at_work}
use Rattle.moments.specs.During.{during, not_yet, during_now, during-ended}
use Rattle.moments.specs.Sorts.{Sort}

module _ (sort : Sort) where
  abbrev pub begin_in : Tables → ℕ → ℕ
  begin_in t n = record_word (sort.records t) n begin_of_record

  abbrev pub end_in : Tables → ℕ → ℕ
  end_in t n = record_word (sort.records t) n end_of_record

  -- What an accepted step does to the records: a record that is there keeps its begin and its end, or ends now; a new one begins now.
  pub record Grew (t t' : Tables) : Type 0 where
    pub more : sort.begun t ≤ sort.begun t'
    pub begin : (n : ℕ) → n < sort.begun t → begin_in t' n ≡ begin_in t n
    pub closed : (n : ℕ) → n < sort.begun t → (end_in t n ≡ 0 → ⊥) → end_in t' n ≡ end_in t n
    pub ends : (n : ℕ) → n < sort.begun t → end_in t n ≡ 0 → (end_in t' n ≡ 0 → ⊥) → end_in t' n ≡ step_of t'
    pub new-begin : (n : ℕ) → sort.begun t ≤ n → n < sort.begun t' → begin_in t' n ≡ step_of t'
    pub new-end : (n : ℕ) → sort.begun t ≤ n → n < sort.begun t' → end_in t' n ≡ 0

  -- The numbers of the records are those of steps taken, begin before end.
  pub record Timed (t : Tables) : Type 0 where
    pub some : (n : ℕ) → n < sort.begun t → 1 ≤ begin_in t n
    pub begun : (n : ℕ) → n < sort.begun t → begin_in t n ≤ step_of t
    pub ended : (n : ℕ) → n < sort.begun t → (end_in t n ≡ 0 → ⊥) → begin_in t n < end_in t n
    pub most : (n : ℕ) → n < sort.begun t → end_in t n ≤ step_of t

  -- Of moment u, by the records of t: what was in progress.
  pub record Seen (u t : Tables) : Type 0 where
    pub early : step_of u ≤ step_of t
    pub known : (n : ℕ) → n < sort.begun t → at_work sort.kind u n ≡ during (begin_in t n) (end_in t n) (step_of u)
    pub beyond : (n : ℕ) → sort.begun t ≤ n → at_work sort.kind u n ≡ false

  module _ (t t' : Tables) (g : Grew t t') (next : step_of t' ≡ step_of t + 1) where
    -- whether a record was there before
    old-new : {C : Type 0} (n : ℕ) → (n < sort.begun t → C) → (sort.begun t ≤ n → C) → C
    old-new n old new = by-test (ltb n (sort.begun t)) (λ e. old (ltb-true _ _ e)) (λ e. new (ltb-false _ _ e))

    pub timed_on : Timed t → Timed t'
    timed_on k = record {
      some = λ n l. old-new n (λ o. rw (g.begin n o) (k.some n o)) (λ o. omega (arith, g.new-begin n o l));
      begun = λ n l. old-new n (λ o. omega (arith, g.begin n o, k.begun n o)) (λ o. omega (arith, g.new-begin n o l));
      ended = λ n l d. old-new n
          (λ o. by_equal (end_in t n) 0
          (λ z. omega (arith, g.begin n o, k.begun n o, g.ends n o z d))
          (λ z. rw (g.begin n o, g.closed n o z) (k.ended n o z)))
          (λ o. absurd (d (g.new-end n o l)));
      most = λ n l. old-new n
          (λ o. by_equal (end_in t n) 0
          (λ z. by_equal (end_in t' n) 0 (λ y. omega arith) (λ y. omega (arith, g.ends n o z y)))
          (λ z. omega (arith, g.closed n o z, k.most n o)))
          (λ o. omega (arith, g.new-end n o l));
    }

    -- an earlier moment, by the records behind one step more
    pub seen_on : (u : Tables) → Seen u t → Seen u t'
    seen_on u s = record {
      early = omega (arith, s.early);
      known = λ n l. old-new n
          (λ o. s.known n o ∙ by_equal (end_in t n) 0
          (λ z. by_equal (end_in t' n) 0
          (λ y. rw (g.begin n o, z, y))
          (λ y. rw (g.begin n o, z) (sym (during-ended (begin_in t n) (end_in t' n) (step_of u) (omega (arith, g.ends n o z y, s.early))))))
          (λ z. rw (g.begin n o, g.closed n o z)))
          (λ o. s.beyond n o ∙ sym (not_yet (begin_in t' n) (end_in t' n) (step_of u) (omega (arith, g.new-begin n o l, s.early))));
      beyond = λ n l. s.beyond n (omega (arith, g.more));
    }
