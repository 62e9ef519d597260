-- A key is in its range exactly where it passes both parts of that.
use Rattle.std.specs.Prelude.{ℕ, ◌+◌, ◌*◌, ◌-◌, ◌/◌, ◌%◌, ◌≤◌, ◌<◌, ◌≡◌, Bool, false, ◌&&◌, leb, ltb}
use Rattle.std.proofs.Common.{sym, ◌∙◌, arith}
use Rattle.std.proofs.Math.Bool.{true}
use borrow.Author.Tests.{le-leb, lt-leb, leb-true, leb-false, ltb-true, ltb-false, ne_eqb}
use Rattle.ranges.specs.Tests.{by_equal, by-test}
use Rattle.ranges.specs.All.{all_below}
use Rattle.ranges.specs.AllLaws.{all_same, all_both}
use Rattle.soundness.specs.Sound.{key_in_range}
use Rattle.soundness.specs.Parts.{key_owned, key_counted}

module _ (p : ℕ) (some : 0 < p) (few : p ≤ 16) where
  abbrev compared : ℕ → ℕ
  compared word = word / 65536 * 65536 + word % 256

  -- with 16 bits the comparison is of the client alone; without, it fails
  small_owned : (word : ℕ) → word < 65536 → key_owned (p - 1) word ≡ ltb (word % 256) p
  small_owned word h =
      by-test (ltb (word % 256) p)
      (λ a. let l = ltb-true (word % 256) p a in le-leb (compared word) (p - 1) (omega arith) ∙ sym a)
      (λ a. let g = ltb-false (word % 256) p a in lt-leb (compared word) (p - 1) (omega arith) ∙ sym a)

  large_owned : (word : ℕ) → 65536 ≤ word → key_owned (p - 1) word ≡ false
  large_owned word h = lt-leb (compared word) (p - 1) (omega arith)

  in_parts : (word : ℕ) → key_in_range p word ≡ (key_counted word && key_owned (p - 1) word)
  unfolding key_in_range
  in_parts word =
      by_equal word 0
      (λ e. let owned : key_owned (p - 1) 0 ≡ true = le-leb 0 (p - 1) (omega arith) in rw (e, owned))
      (λ d. by-test (leb word 255)
      (λ a. let l = leb-true word 255 a in rw (ne_eqb word 0 d, lt-leb 256 word (omega arith), le-leb 1 word (omega arith), a))
      (λ a. let g = leb-false word 255 a in
      by-test (leb word 65535)
      (λ b. let l = leb-true word 65535 b in
      rw (ne_eqb word 0 d, le-leb 256 word (omega arith), b, le-leb 1 word (omega arith), a, small_owned word (omega arith)))
      (λ b. let h = leb-false word 65535 b in
      rw (ne_eqb word 0 d, le-leb 256 word (omega arith), b, le-leb 1 word (omega arith), a, large_owned word (omega arith)))))

  -- so are all words of a row where they all pass both
  module _ (word : ℕ → ℕ) (n : ℕ) where
    pub all_in-parts : all_below (λ i. key_in_range p (word i)) n
        ≡ (all_below (λ i. key_counted (word i)) n && all_below (λ i. key_owned (p - 1) (word i)) n)
    all_in-parts =
        all_same (λ i. key_in_range p (word i)) (λ i. key_counted (word i) && key_owned (p - 1) (word i)) n (λ i l. in_parts (word i))
        ∙ all_both (λ i. key_counted (word i)) (λ i. key_owned (p - 1) (word i)) n
