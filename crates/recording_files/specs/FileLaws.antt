-- The cases of a file, as the code meets them.
use Rattle.std.specs.Prelude.{◌≡◌, ℕ, ◌+◌, ◌-◌, ◌*◌, ◌/◌, ◌≤◌, ◌<◌, min, List, false, take}
use Rattle.std.proofs.Math.Path.{sym, ap}
use Rattle.std.proofs.Common.{◌∙◌, true≢false, length-take-le}
use native.Mathlib.Omega.{arith}
use Rattle.std.proofs.Math.Bool.{true}
use Rattle.std.proofs.Math.Dec.{leb}
use Rattle.std.proofs.Math.ListN.{length, get_or, drop, drop_of_length-le, get_or-eq_default}
use borrow.Author.Tests.{eq-eqb, ne_eqb, le-leb, lt-leb, leb-true, leb-false}
use Rattle.ranges.specs.Tests.{by-test, by_equal}
use Rattle.ranges.specs.Laid.{built, laid}
use Rattle.ranges.specs.LaidLaws.{built-length, laid_front}
use Rattle.recordings.specs.Recording.{well_made}
use Rattle.recordings.specs.Whole.{well-made_many}
use Rattle.recording_files.specs.File.{word_at, frames_in, bytes_place, is_file, length_at, bytes_in}

-- as many lengths as are looked at: one more than a recording may have
abbrev pub most_read : ℕ
most_read = 4097

module _ (file : List ℕ) where
  pub file-empty : length file ≡ 0 → true ≡ is_file file
  unfolding is_file
  file-empty e = sym (rw (eq-eqb (length file) 0 e))

  pub file_short : (length file ≡ 0 → ⊥) → length file < 4 → false ≡ is_file file
  unfolding is_file
  file_short d h = sym (rw (ne_eqb (length file) 0 d, lt-leb (bytes_place file) (length file) (omega arith)))

  pub file_by-count : {n : ℕ} → 4 ≤ length file → n ≡ word_at file 0 → leb n ((length file - 4) / 4) ≡ is_file file
  unfolding is_file
  file_by-count {n} h e =
      by-test (leb n ((length file - 4) / 4))
      (λ b.
      let l = leb-true n ((length file - 4) / 4) b in
      b ∙ sym (rw (ne_eqb (length file) 0 (λ z. omega arith), le-leb (bytes_place file) (length file) (omega arith))))
      (λ b.
      let l = leb-false n ((length file - 4) / 4) b in
      b ∙ sym (rw (ne_eqb (length file) 0 (λ z. omega arith), lt-leb (bytes_place file) (length file) (omega arith))))

  -- a file that is not cut has its lengths
  module _ (f : is_file file ≡ true) where
    pub file-holds : (length file ≡ 0 → ⊥) → bytes_place file ≤ length file
    unfolding is_file
    file-holds d =
        let t : leb (bytes_place file) (length file) ≡ true = rw (ne_eqb (length file) 0 d) at f in
        leb-true (bytes_place file) (length file) t

    pub none_in_empty : length file ≡ 0 → 0 ≡ frames_in file
    unfolding word_at
    none_in_empty e =
        let z : (i : ℕ) → get_or file i 0 ≡ 0 = λ i. get_or-eq_default file 0 (omega arith) in
        sym (rw (z 0, z (0 + 1), z (0 + 2), z (0 + 3)))

    pub bytes_in-empty : length file ≡ 0 → drop 0 file ≡ bytes_in file
    unfolding bytes_in
    bytes_in-empty e =
        let h : length file ≤ 0 = omega arith in
        let k : length file ≤ bytes_place file = omega arith in
        drop_of_length-le file h ∙ sym (drop_of_length-le file k)

    pub bytes_in_lem : {n : ℕ} → n ≡ frames_in file → drop (4 + 4 * n) file ≡ bytes_in file
    unfolding bytes_in
    bytes_in_lem e = ap (λ (m : ℕ). drop (4 + 4 * m) file) e

-- what storing n lengths asks: the file has them, and there is room
pub record Lengths (file : List ℕ) (n room : ℕ) : Type 0 where
  pub held : 0 < n → 4 + 4 * n ≤ length file
  pub fits : n ≤ room

pub lengths_held : (file : List ℕ) {n m : ℕ} → is_file file ≡ true → m ≡ frames_in file → n ≡ min m most_read → Lengths file n most_read
lengths_held file {n} {m} f e d =
    record {
      held =
          λ h.
          by_equal (length file) 0
          (λ z. let w = none_in_empty file f z in let y : ⊥ = omega arith in absurd y)
          (λ z. omega (arith, file-holds file f z));
      fits = omega arith;
    }

-- what is read of a file's lengths: all of them, or one more than there may be
pub record LengthsRead (file before after : List ℕ) (n : ℕ) : Type 0 where
  pub count : n ≡ min (frames_in file) most_read
  pub stored : after ≡ laid (length_at file) n before

-- where the bytes begin
pub record Place (file : List ℕ) (at : ℕ) : Type 0 where
  pub inside : at ≤ length file
  pub bytes : drop at file ≡ bytes_in file

-- more frames than there may be are refused, whichever of their lengths were read
module _ (f : ℕ → ℕ) (n : ℕ) (bytes : List ℕ) where
  pub same_judgement : well_made (built f (min n most_read)) bytes ≡ well_made (built f n) bytes
  same_judgement =
      by-test (leb n most_read)
      (λ b. let h = leb-true n most_read b in let e : min n most_read ≡ n = omega arith in ap (λ (m : ℕ). well_made (built f m) bytes) e)
      (λ b.
      let h = leb-false n most_read b in
      sym (well-made_many (built f (min n most_read)) bytes (omega (arith, built-length f (min n most_read))))
      ∙ well-made_many (built f n) bytes (omega (arith, built-length f n)))

  pub well-made-read : well_made (built f n) bytes ≡ true → built f (min n most_read) ≡ built f n
  well-made-read t =
      by-test (leb n most_read)
      (λ b. let h = leb-true n most_read b in let e : min n most_read ≡ n = omega arith in ap (built f) e)
      (λ b.
      let h = leb-false n most_read b in
      absurd (true≢false (sym t ∙ sym (well-made_many (built f n) bytes (omega (arith, built-length f n))))))

module _ (f g : ℕ → ℕ) (n m : ℕ) (bytes bytes' : List ℕ) where
  abbrev pub read_one : List ℕ
  read_one = built f (min n most_read)

  abbrev pub read_other : List ℕ
  read_other = built g (min m most_read)

-- as many as were read
pub read-counted : (file before : List ℕ) {after : List ℕ} {n : ℕ} → LengthsRead file before after n → n ≡ length (take n after)
read-counted file before {n = n} r =
    sym (ap (λ (l : List ℕ). length l) (laid_front (length_at file) n before r.stored) ∙ built-length (length_at file) n)

-- so many bytes at the start of a row, as the program lends them
abbrev pub Counts : ℕ → List ℕ → Type 0
Counts n row = (n ≤ length row) × (n ≡ length (take n row))

pub counts_of : (left : List ℕ) {n : ℕ} → n ≤ length left → Counts n left
counts_of left {n} h = (h, sym (length-take-le n left h))
