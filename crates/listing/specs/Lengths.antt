-- How many lines the register has: the WRITEs that have a tag and the finished READs, each once.
use Prim.Native.Nat.{ℕ, zero, suc, ◌+◌, ◌-◌, ◌≤◌, ◌<◌}
use Rattle.std.specs.Prelude.{◌≡◌, Bool, cond, not, ◌&&◌, length, eqb, ltb, leb}
use Rattle.std.proofs.Math.Path.{refl}
use Rattle.std.proofs.Common.{ap, ◌∙◌, le-leb, eq-eqb, ne_eqb, leb-true, leb-false}
use Rattle.std.proofs.Math.Bool.{true, false, and-true}
use mathlib.Core.List.{List, [], ◌∷◌, ◌++◌, map}
use native.Mathlib.Omega.{arith}
use Rattle.std.proofs.Math.ListN.{length-append, length-map}
use Rattle.std.proofs.lemmas.Bool.{lt-leb}
use Rattle.ranges.specs.Tests.{by_equal, by-test}
use Rattle.ranges.specs.Sum.{one, sum_below, count_below}
use Rattle.ranges.specs.SumLaws.{sum_same, sum-add, sum-nothing, count_most}
use Rattle.ranges.specs.Inserted.{inserted}
use Rattle.tables.specs.Layout.{record_word, tag_of_record, record_places, count_at, writes_field, reads_field}
use Rattle.tables.specs.Tables.{Tables, entries_of, writes_of, reads_of}
use Rattle.listing.specs.Register.{is_finished, has_tag, kept, places_below, passing, inserted_all, begin_in, write, read, finished_below}
use Rattle.listing.specs.Register.{writes_of_tag, reads_of_tag, listed_to, most_lines, register}
use Rattle.listing.specs.Places.{length-kept, passing-append}

-- ---- places

pub length_places : (p : ℕ → Bool) (n : ℕ) → length (places_below p n) ≡ count_below p n
unfolding places_below sum_below
length_places p zero = refl
length_places p (suc n) = length-append (places_below p n) (kept (p n) n) ∙ omega (arith, length_places p n, length-kept (p n) n)

module _ (q : ℕ → Bool) where
  abbrev number : List ℕ → ℕ
  number places = length (passing q places)

  number_more : (place : ℕ) (places : List ℕ) → number (place ∷ places) ≡ one (q place) + number places
  unfolding passing
  number_more place places = length-append (kept (q place) place) (passing q places) ∙ omega (arith, length-kept (q place) place)

  number-cond : (b : Bool) (n : ℕ) (xs ys : List ℕ) → number xs ≡ n → number ys ≡ n → number (cond b xs ys) ≡ n
  number-cond true n xs ys d e = d
  number-cond false n xs ys d e = e

  -- inserting keeps how many pass
  number-inserted : (by : ℕ → ℕ) (place : ℕ) (places : List ℕ) → number (inserted by place places) ≡ one (q place) + number places
  unfolding inserted
  number-inserted by place [] = number_more place []
  number-inserted by place (x ∷ xs) =
      number-cond (ltb (by place) (by x)) (one (q place) + number (x ∷ xs)) (place ∷ x ∷ xs) (x ∷ inserted by place xs)
      (number_more place (x ∷ xs))
      (number_more x (inserted by place xs) ∙ omega (arith, number-inserted by place xs, number_more x xs))

  number-inserted_all : (by : ℕ → ℕ) (places sorted : List ℕ) → number (inserted_all by places sorted) ≡ number places + number sorted
  unfolding inserted_all passing
  number-inserted_all by [] sorted = omega arith
  number-inserted_all by (x ∷ xs) sorted =
      number-inserted_all by xs (inserted by x sorted) ∙ omega (arith, number-inserted by x sorted, number_more x xs)

  number-kept : (b : Bool) (place : ℕ) → number (kept b place) ≡ one (b && q place)
  unfolding passing
  number-kept true place = number_more place [] ∙ omega arith
  number-kept false place = refl

  number_places : (p : ℕ → Bool) (n : ℕ) → number (places_below p n) ≡ count_below (λ i. p i && q i) n
  unfolding places_below sum_below passing
  number_places p zero = refl
  number_places p (suc n) =
      rw (passing-append q (places_below p n) (kept (p n) n), length-append (passing q (places_below p n)) (passing q (kept (p n) n)))
      (omega (arith, number_places p n, number-kept (p n) n))

-- ---- tags up to n

-- a number up to n + 1 is one up to n, or n + 1
up_to-more : (x n : ℕ) → one (leb x (suc n)) ≡ one (leb x n) + one (eqb x (suc n))
up_to-more x n =
    by_equal x (suc n)
    (λ e. rw (le-leb x (suc n) (omega arith), lt-leb x n (omega arith), eq-eqb x (suc n) e))
    (λ d. by-test (leb x n)
    (λ b. rw (b, le-leb x (suc n) (omega (arith, leb-true x n b)), ne_eqb x (suc n) d))
    (λ b. let l = leb-false x n b in rw (b, lt-leb x (suc n) (omega (arith, by_equal x (suc n) (λ e. absurd {A = suc n < x} (d e)) (λ e. omega arith))), ne_eqb x (suc n) d)))

-- where a condition holds besides
also-up_to-more : (b : Bool) (x n : ℕ) → one (b && leb x (suc n)) ≡ one (b && leb x n) + one (b && eqb x (suc n))
also-up_to-more true x n = up_to-more x n
also-up_to-more false x n = refl

tagged-more : (x n : ℕ) → one (not (eqb x 0) && leb x (suc n)) ≡ one (not (eqb x 0) && leb x n) + one (eqb x (suc n))
tagged-more x n =
    by_equal x 0
    (λ e. rw (e, ne_eqb 0 (suc n) (λ z. omega arith)))
    (λ d. rw (ne_eqb x 0 d) (up_to-more x n))

-- ---- the register

abbrev pub lines_in : List ℕ → List ℕ → List ℕ → ℕ
lines_in counts writes reads = count_below (λ place. not (has_tag writes 0 place)) (count_at counts writes_field) + count_below (is_finished reads) (count_at counts reads_field)

module _ (t : Tables) where
  abbrev tag_of_write : ℕ → ℕ
  tag_of_write place = record_word t.writes place tag_of_record

  abbrev tag_of_read : ℕ → ℕ
  tag_of_read place = record_word t.reads place tag_of_record

  -- WRITEs with a tag up to n, and finished READs at a tag up to n
  abbrev writes_to : ℕ → ℕ
  writes_to n = count_below (λ place. not (eqb (tag_of_write place) 0) && leb (tag_of_write place) n) (writes_of t)

  abbrev reads_to : ℕ → ℕ
  reads_to n = count_below (λ place. is_finished t.reads place && leb (tag_of_read place) n) (reads_of t)

  abbrev reads_at : ℕ → ℕ
  reads_at n = count_below (λ place. is_finished t.reads place && eqb (tag_of_read place) n) (reads_of t)

  length-reads : (tag : ℕ) → length (map read (reads_of_tag t tag)) ≡ reads_at tag
  unfolding passing
  length-reads tag =
      length-map (reads_of_tag t tag) read
      ∙ number-inserted_all (has_tag t.reads tag) (begin_in t.reads) (finished_below t.reads (reads_of t)) []
      ∙ omega (arith, number_places (has_tag t.reads tag) (is_finished t.reads) (reads_of t))

  length-writes : (tag : ℕ) → length (map write (writes_of_tag t tag)) ≡ count_below (has_tag t.writes tag) (writes_of t)
  length-writes tag = length-map (writes_of_tag t tag) write ∙ length_places (has_tag t.writes tag) (writes_of t)

  no_writes : writes_to 0 ≡ 0
  no_writes = sum-nothing (λ place. one (not (eqb (tag_of_write place) 0) && leb (tag_of_write place) 0)) (writes_of t) (λ i l. none (tag_of_write i))
    where
      none : (x : ℕ) → one (not (eqb x 0) && leb x 0) ≡ 0
      none x = by_equal x 0 (λ e. rw e) (λ d. rw (ne_eqb x 0 d, lt-leb x 0 (omega arith)))

  reads_first : reads_to 0 ≡ reads_at 0
  reads_first =
      sum_same (λ place. one (is_finished t.reads place && leb (tag_of_read place) 0)) (λ place. one (is_finished t.reads place && eqb (tag_of_read place) 0)) (reads_of t)
      (λ i l. ap (λ (b : Bool). one (is_finished t.reads i && b)) (same (tag_of_read i)))
    where
      same : (x : ℕ) → leb x 0 ≡ eqb x 0
      same x = by_equal x 0 (λ e. rw e) (λ d. rw (ne_eqb x 0 d, lt-leb x 0 (omega arith)))

  length-listed : (n : ℕ) → length (listed_to t n) ≡ writes_to n + reads_to n
  unfolding listed_to
  length-listed zero = omega (arith, length-reads 0, no_writes, reads_first)
  length-listed (suc n) =
      let w : writes_to (suc n) ≡ writes_to n + count_below (has_tag t.writes (suc n)) (writes_of t) = sum-add _ _ _ (writes_of t) (λ i l. tagged-more (tag_of_write i) n) in
      let r : reads_to (suc n) ≡ reads_to n + reads_at (suc n) = sum-add _ _ _ (reads_of t) (λ i l. also-up_to-more (is_finished t.reads i) (tag_of_read i) n) in
      rw (
        length-append (listed_to t n) (map write (writes_of_tag t (suc n)) ++ map read (reads_of_tag t (suc n))),
        length-append (map write (writes_of_tag t (suc n))) (map read (reads_of_tag t (suc n))),
      )
      (omega (arith, length-listed n, w, r, length-writes (suc n), length-reads (suc n)))

  -- fewer tags, no more lines
  pub fewer-lines : (n m : ℕ) → n ≤ m → length (listed_to t n) ≤ length (listed_to t m)
  unfolding listed_to
  fewer-lines n zero h = let e : n ≡ 0 = omega arith in rw e (omega arith)
  fewer-lines n (suc m) h =
      by_equal n (suc m) (λ e. rw e (omega arith))
      (λ d. rw (length-append (listed_to t m) (map write (writes_of_tag t (suc m)) ++ map read (reads_of_tag t (suc m)))) (omega (arith, fewer-lines n m (omega arith))))

  -- each record's tag is a place of the log, so that all that have a line are listed
  module _ (wtag : (place : ℕ) → place < writes_of t → tag_of_write place < entries_of t) (rtag : (place : ℕ) → place < reads_of t → tag_of_read place < entries_of t) where
    pub register-length : length (register t) ≡ lines_in t.counts t.writes t.reads
    register-length =
        let w : writes_to (entries_of t - 1) ≡ count_below (λ place. not (has_tag t.writes 0 place)) (writes_of t) =
        sum_same _ _ (writes_of t) (λ i l. rw (le-leb (tag_of_write i) (entries_of t - 1) (omega (arith, wtag i l))) (ap one (and-true (not (eqb (tag_of_write i) 0))))) in
        let r : reads_to (entries_of t - 1) ≡ count_below (is_finished t.reads) (reads_of t) =
        sum_same _ _ (reads_of t) (λ i l. rw (le-leb (tag_of_read i) (entries_of t - 1) (omega (arith, rtag i l))) (ap one (and-true (is_finished t.reads i)))) in
        length-listed (entries_of t - 1) ∙ omega (arith, w, r)

    pub few-lines : writes_of t ≤ record_places → reads_of t ≤ record_places → length (register t) ≤ most_lines
    few-lines w r =
        omega (arith, w, r, register-length, count_most (λ place. not (has_tag t.writes 0 place)) (writes_of t), count_most (is_finished t.reads) (reads_of t))
