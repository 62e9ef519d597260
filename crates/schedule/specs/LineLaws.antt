-- Laws of lines: how a search for a line's end goes on, and how the lines of a text follow each other.
use Rattle.std.specs.Prelude.{ℕ, suc, ◌+◌, ◌-◌, ◌≤◌, ◌<◌, ◌≡◌, refl, true, false, cond, Option, Some, None, List, [], ◌∷◌, ◌++◌, length, take, drop, get_or, eqb, ltb}
use Rattle.std.proofs.Common.{ap, sym, ltb-false, arith, drop_of_length-le, length-drop, drop-cons, drop-drop}
use Rattle.std.proofs.Math.Numerals.{add-one}
use Rattle.std.proofs.lemmas.List.Recursion.{is_position_or_len}
use Rattle.std.specs.List.{position_or_len}
use Rattle.std.specs.Option.{unwrap_or}
use borrow.Author.Tests.{eq-eqb, ne_eqb}
use Rattle.ranges.specs.Tests.{either, by-test}
use Rattle.schedule.specs.Lines.{line_of, end_of, on_first, lines_of}

module _ (s : List ℕ) (i : ℕ) where
  pub end_past : length s ≤ i → end_of s i ≡ i
  unfolding line_of
  end_past h = rw (drop_of_length-le s h) (omega arith)

  pub end-here : i < length s → get_or s i 0 ≡ 10 → end_of s i ≡ i
  unfolding line_of
  end-here h e = rw (drop-cons s i 0 h, eq-eqb _ _ e) (omega arith)

  pub end_later : i < length s → (get_or s i 0 ≡ 10 → ⊥) → end_of s i ≡ end_of s (i + 1)
  unfolding line_of
  end_later h e = rw (drop-cons s i 0 h, ne_eqb _ _ e, add-one i) (omega arith)

-- the line ends at the first byte 10
pub first-ten : (s : List ℕ) → length (line_of s) ≡ position_or_len (λ b. eqb b 10) s
unfolding line_of
first-ten s =
    is_position_or_len (λ t. length (line_of t)) (λ b. eqb b 10) refl
    (λ b t. by-test (eqb b 10) (λ e. rw e) (λ e. rw e (omega arith))) s

-- the line is the front of the text
pub take-line : (s : List ℕ) → take (length (line_of s)) s ≡ line_of s
unfolding line_of
take-line [] = refl
take-line (b ∷ rest) = either (λ (l : List ℕ). take (length l) (b ∷ rest) ≡ l) (eqb b 10) refl (ap (λ (l : List ℕ). b ∷ l) (take-line rest))

pub line_short : (s : List ℕ) → length (line_of s) ≤ length s
unfolding line_of
line_short [] = omega arith
line_short (b ∷ rest) = either (λ (l : List ℕ). length l ≤ suc (length rest)) (eqb b 10) (omega arith) (omega (arith, line_short rest))

-- so where a search for the byte 10 finds none, at the end of the text
pub ten-found : (s : List ℕ) {o : Option ℕ} →
    o ≡ cond (ltb (position_or_len (λ b. eqb b 10) s) (length s)) (Some (position_or_len (λ b. eqb b 10) s)) None → unwrap_or o (length s) ≡ length (line_of s)
ten-found s e =
    by-test (ltb (position_or_len (λ b. eqb b 10) s) (length s))
    (λ t. rw (e, t) (sym (first-ten s)))
    (λ t. rw (e, t) (omega (arith, first-ten s, line_short s, ltb-false _ _ t)))

-- a line that begins in the text ends there
pub end-within : (s : List ℕ) (a : ℕ) → a ≤ length s → end_of s a ≤ length s
end-within s a h = omega (arith, length-drop a s, line_short (drop a s))

-- past the end of the text the line is empty
pub line_past : (s : List ℕ) (a : ℕ) → length s < a → [] ≡ line_of (drop a s)
unfolding line_of
line_past s a h = let k : length s ≤ a = omega arith in rw (drop_of_length-le s k)

-- the part from a line's start to its end is the line
pub line-part : (s : List ℕ) (a e : ℕ) → e ≡ end_of s a → take (e - a) (drop a s) ≡ line_of (drop a s)
line-part s a e h =
    let n : e - a ≡ length (line_of (drop a s)) = omega arith in
    rw n (take-line (drop a s))

-- the lines of a text that is not empty: the one at its front, and those behind its byte 10
module _ (b : ℕ) (rest : List ℕ) where
  line_other : eqb b 10 ≡ false → line_of (b ∷ rest) ≡ b ∷ line_of rest
  unfolding line_of
  line_other e = rw e

  lines_other : eqb b 10 ≡ false → lines_of (b ∷ rest) ≡ on_first b (lines_of rest)
  unfolding lines_of
  lines_other e = rw e

  lines_ten : eqb b 10 ≡ true → lines_of (b ∷ rest) ≡ line_of (b ∷ rest) ∷ lines_of (drop (suc (length (line_of (b ∷ rest)))) (b ∷ rest))
  unfolding lines_of line_of
  lines_ten e = rw e

lines-one : (b : ℕ) → eqb b 10 ≡ false → lines_of (b ∷ []) ≡ line_of (b ∷ []) ∷ lines_of (drop (suc (length (line_of (b ∷ [])))) (b ∷ []))
unfolding lines_of line_of
lines-one b e = rw e

lines_split : (b : ℕ) (rest : List ℕ) → lines_of (b ∷ rest) ≡ line_of (b ∷ rest) ∷ lines_of (drop (suc (length (line_of (b ∷ rest)))) (b ∷ rest))
lines_split b [] = by-test (eqb b 10) (lines_ten b []) (lines-one b)
lines_split b (c ∷ rest) =
    by-test (eqb b 10)
    (lines_ten b (c ∷ rest))
    (λ e. rw (lines_other b (c ∷ rest) e, line_other b (c ∷ rest) e, lines_split c rest))

-- the lines from a place on: the line there, and the lines from behind its end on
pub lines_next : (s : List ℕ) (a : ℕ) → a < length s → lines_of (drop a s) ≡ line_of (drop a s) ∷ lines_of (drop (end_of s a + 1) s)
lines_next s a h =
    let n : end_of s a + 1 ≡ a + suc (length (line_of (drop a s))) = omega arith in
    rw (n, ← drop-drop (suc (length (line_of (drop a s)))) a s, drop-cons s a 0 h) (lines_split (get_or s a 0) (drop (suc a) s))

-- a line that ends within a text by its byte 10 is the line of any text that begins so: what is read later does not change it
pub line-found : (s more : List ℕ) → length (line_of s) < length s → line_of (s ++ more) ≡ line_of s
unfolding line_of
line-found [] more h = let z : ⊥ = omega arith in absurd z
line-found (b ∷ rest) more h =
    by-test (eqb b 10)
    (λ e. rw e)
    (λ e. rw (e, line-found rest more (omega (arith, rw e at h))))
