-- Some moment has both in progress exactly where the register's test of begins and ends holds.
use Rattle.std.specs.Prelude.{ℕ, zero, suc, ◌≤◌, ◌<◌, ◌≡◌, refl, Bool, true, false, not, ◌&&◌, ◌||◌, List, [], ◌∷◌, length, get_or, leb, ltb}
use Rattle.std.proofs.Common.{sym, ap, ◌∙◌, arith, leb-true, leb-false, ltb-true, lt-ltb, eq-eqb, ne_eqb}
use Rattle.ranges.specs.Tests.{by_equal, by-test, both, both_left, both_right, not-both}
use Rattle.ranges.specs.Each.{Each, each_at}
use Rattle.ranges.specs.Sum.{one}
use Rattle.ranges.specs.SumLaws.{sum_same}
use Rattle.tables.specs.Layout.{record_word, begin_of_record, end_of_record}
use Rattle.tables.specs.Tables.{Tables, step_of, writes_of, reads_of}
use Rattle.soundness.specs.Sound.{is_writing, is_reading}
use Rattle.listing.specs.Register.{is_finished, overlaps, overlap}
use Rattle.moments.specs.Claim.{at_work, together, in_progress}
use Rattle.moments.specs.During.{during, during_yes, begun_then, open_then}
use Rattle.moments.specs.Sorts.{writes, reads}
use Rattle.moments.specs.Seen.{Timed, Seen}

-- one moment of the list is enough, and none is none
abbrev Both : ℕ → ℕ → Tables → Bool
Both m n u = at_work is_reading u m && at_work is_writing u n

together_at : (m n : ℕ) (d : Tables) (past : List Tables) (k : ℕ) → k < length past → Both m n (get_or past k d) ≡ true →
    together past m n ≡ true
together_at m n d [] k l e = let z : ⊥ = omega arith in absurd z
together_at m n d (u ∷ past) zero l e = rw e
together_at m n d (u ∷ past) (suc k) l e =
    by-test (Both m n u) (λ b. rw b) (λ b. rw b (together_at m n d past k (omega arith) e))

together-none : (m n : ℕ) (past : List Tables) → Each (λ u. Both m n u ≡ false) past → together past m n ≡ false
together-none m n [] a = refl
together-none m n (u ∷ past) a = rw a.0 (together-none m n past a.1)

-- every step number up to the last has its moment
abbrev pub Covered : Tables → Tables → List Tables → Type 0
Covered d t past = (s : ℕ) → 1 ≤ s → s ≤ step_of t → (k : ℕ) × (k < length past) × (step_of (get_or past k d) ≡ s)

module _ (d t : Tables) (past : List Tables) (tr : Timed reads t) (tw : Timed writes t) (sr : Each (λ u. Seen reads u t) past)
    (sw : Each (λ u. Seen writes u t) past) (cover : Covered d t past) (m : ℕ) (read : m < reads_of t)
    (done : is_finished t.reads m ≡ true) where
  abbrev b : ℕ
  b = record_word t.reads m begin_of_record

  abbrev e : ℕ
  e = record_word t.reads m end_of_record

  has_end : e ≡ 0 → ⊥
  has_end z = not-both done (rw (eq-eqb e 0 z))

  module _ (n : ℕ) (write : n < writes_of t) where
    abbrev b' : ℕ
    b' = record_word t.writes n begin_of_record

    abbrev e' : ℕ
    e' = record_word t.writes n end_of_record

    -- the test, both ways
    test_yes : b' < e → ((e' ≡ 0 → ⊥) → b < e') → overlaps t.writes b e n ≡ true
    test_yes l a =
        by_equal e' 0
        (λ z. rw (lt-ltb b' e l, eq-eqb e' 0 z))
        (λ z. rw (lt-ltb b' e l, ne_eqb e' 0 z, lt-ltb b e' (a z)))

    begun-before : overlaps t.writes b e n ≡ true → b' < e
    begun-before o = ltb-true b' e (both_left (ltb b' e) (not (is_finished t.writes n) || ltb b e') o)

    ended-after : overlaps t.writes b e n ≡ true → (e' ≡ 0 → ⊥) → b < e'
    ended-after o z = ltb-true b e' (rw (ne_eqb e' 0 z) at (both_right (ltb b' e) (not (is_finished t.writes n) || ltb b e') o))

    -- a step number that is in both has a moment
    meets : (s : ℕ) → b ≤ s → b' ≤ s → s < e → ((e' ≡ 0 → ⊥) → s < e') → s ≤ step_of t → together past m n ≡ true
    meets s l l' r r' most =
        let c = cover s (omega (arith, tr.some m read)) most in
        let u = get_or past c.0 d in
        let here : step_of u ≡ s = c.2 in
        let reading : at_work is_reading u m ≡ true =
        (each_at (λ u. Seen reads u t) d past sr c.0 c.1).known m read ∙ during_yes b e (step_of u) (omega arith) (λ z. omega arith) in
        let writing : at_work is_writing u n ≡ true =
        (each_at (λ u. Seen writes u t) d past sw c.0 c.1).known n write
        ∙ during_yes b' e' (step_of u) (omega arith) (λ z. omega (arith, r' z)) in
        together_at m n d past c.0 c.1 (both _ _ reading writing)

    overlapping : overlaps t.writes b e n ≡ true → together past m n ≡ true
    overlapping o =
        let r = begun-before o in
        by-test (leb b b')
        (λ y. let l : b ≤ b' = leb-true b b' y in
        meets b' l (omega arith) r (λ z. tw.ended n write z) (tw.begun n write))
        (λ y. let l : b' < b = leb-false b b' y in
        meets b (omega arith) (omega arith) (tr.ended m read has_end) (λ z. ended-after o z) (tr.begun m read))

    -- and one that is in progress with it at a moment passes the test
    apart : overlaps t.writes b e n ≡ false → (u : Tables) → Seen reads u t → Seen writes u t → Both m n u ≡ false
    apart o u x y =
        by-test (Both m n u)
        (λ both'.
        let reading : during b e (step_of u) ≡ true = sym (x.known m read) ∙ both_left (at_work is_reading u m)
        (at_work is_writing u n) both' in
        let writing : during b' e' (step_of u) ≡ true = sym (y.known n write) ∙ both_right (at_work is_reading u m)
        (at_work is_writing u n) both' in
        absurd (not-both (test_yes
        (omega (arith, begun_then b' e' (step_of u) writing, open_then b e (step_of u) reading has_end))
        (λ z. omega (arith, begun_then b e (step_of u) reading, open_then b' e' (step_of u) writing z))) o))
        (λ z. z)

    each_apart : overlaps t.writes b e n ≡ false → (us : List Tables) → Each (λ u. Seen reads u t) us → Each (λ u. Seen writes u t) us →
        Each (λ u. Both m n u ≡ false) us
    each_apart o [] x y = tt
    each_apart o (u ∷ us) x y = (apart o u x.0 y.0, each_apart o us x.1 y.1)

    same_test : overlaps t.writes b e n ≡ together past m n
    same_test =
        by-test (overlaps t.writes b e n)
        (λ o. o ∙ sym (overlapping o))
        (λ o. o ∙ sym (together-none m n past (each_apart o past sr sw)))

  pub by_moments : overlap t.writes (writes_of t) b e ≡ in_progress past m (writes_of t)
  by_moments = sum_same (λ n. one (overlaps t.writes b e n)) (λ n. one (together past m n)) (writes_of t) (λ n l. ap one (same_test n l))
