-- Laws of numbers as the readers meet them: one for each way that a reader goes.
use Rattle.std.specs.Prelude.{ℕ, zero, suc, ◌+◌, ◌*◌, ◌-◌, ◌≤◌, ◌<◌, ◌≡◌, Bool, true, false, cond, Some, None, take, get_or, set, eqb, ltb}
use Rattle.std.proofs.Math.Path.{refl}
use Rattle.std.proofs.Common.{ap, sym, ◌∙◌, arith, drop_of_length-le, length-set, take-append-drop, drop-drop, take_all, take-suc-set, drop-set-lt, length-take-le}
use mathlib.Core.List.{List, [], ◌∷◌, ◌++◌, append_assoc, append-nil}
use Rattle.std.proofs.Math.Numerals.{add-one}
use Rattle.std.proofs.Math.ListN.{length, drop, length-drop}
use Rattle.std.proofs.Math.Seq.{drop-cons}
use borrow.Author.Tests.{eq-eqb, ne_eqb, le-leb, lt-leb, lt-ltb, le-ltb, ltb-true, ltb-false, leb-true}
use Rattle.ranges.specs.Tests.{by-test, both_right}
use Rattle.schedule.specs.Number.{Number, digit_read}
use Rattle.schedule.specs.Number.{Value, Not}
use Rattle.schedule.specs.Number.{Broken, All}
use Rattle.schedule.specs.Numbers.{digit_of, digit_head, may_follow, read_on, number_of, spaced_of, Read, read_then, numbers_behind, numbers_of, count_of}
use Rattle.schedule.specs.Steps.{line_most, numbers_most, stored}

-- what a byte is read as
module _ {d w : ℕ} where
  pub read-digit : Some d ≡ digit_read w → (d ≡ w) × (d < 10)
  read-digit e =
      by-test (ltb w 10)
      (λ t. let f : Some d ≡ Some w = e ∙ rw t in let g : d ≡ w = cc in let h = ltb-true w 10 t in (g, omega arith))
      (λ t. let f : Some d ≡ None = e ∙ rw t in let z : ◌≡◌ {A = ℕ} 0 1 = cc in let y : ⊥ = omega arith in absurd y)

module _ {w : ℕ} where
  pub read_none-digit : None ≡ digit_read w → 10 ≤ w
  read_none-digit e =
      by-test (ltb w 10)
      (λ t. let f : None ≡ Some w = e ∙ rw t in let z : ◌≡◌ {A = ℕ} 0 1 = cc in let y : ⊥ = omega arith in absurd y)
      (λ t. ltb-false w 10 t)

-- the digit at a place
module _ (s : List ℕ) (i : ℕ) where
  pub digit_past : length s ≤ i → digit_head (drop i s) ≡ 10
  unfolding digit_head
  digit_past h = rw (drop_of_length-le s h)

  pub digit-within : i < length s → digit_head (drop i s) ≡ digit_of (get_or s i 0)
  unfolding digit_head
  digit-within h = rw (drop-cons s i 0 h)

no_digit : {C : Type 0} {d : ℕ} → d ≡ 10 → d < 10 → C
no_digit e h = let z : ⊥ = omega arith in absurd z

-- a number's first digit: d is the digit that the code read
module _ {d : ℕ} where
  pub none_first : (s : List ℕ) → d ≡ digit_head s → 10 ≤ d → Not ≡ number_of s
  unfolding number_of digit_head
  none_first [] is h = refl
  none_first (b ∷ rest) is h = rw (← is, le-ltb _ _ h)

  pub starts : (s : List ℕ) → d ≡ digit_head s → d < 10 → number_of s ≡ read_on d 1 (drop 1 s)
  unfolding number_of digit_head
  starts [] is h = no_digit is h
  starts (b ∷ rest) is h = rw (← is, lt-ltb _ _ h)

-- the digits behind it
module _ (v n : ℕ) {d : ℕ} where
  pub ends_of : (l : List ℕ) → d ≡ digit_head l → 10 ≤ d → read_on v n l ≡ Value v n
  unfolding read_on digit_head
  ends_of [] is h = refl
  ends_of (b ∷ rest) is h = rw (← is, le-ltb _ _ h)

  goes_of : (l : List ℕ) → d ≡ digit_head l → d < 10 → may_follow v d ≡ true → read_on v n l ≡ read_on (v * 10 + d) (n + 1) (drop 1 l)
  unfolding read_on digit_head
  goes_of [] is h k = no_digit is h
  goes_of (b ∷ rest) is h k = rw (← is, lt-ltb _ _ h, k)

  fault_of : (l : List ℕ) → d ≡ digit_head l → d < 10 → may_follow v d ≡ false → read_on v n l ≡ Not
  unfolding read_on digit_head
  fault_of [] is h k = no_digit is h
  fault_of (b ∷ rest) is h k = rw (← is, lt-ltb _ _ h, k)

  module _ (s : List ℕ) (is : d ≡ digit_head (drop n s)) where
    pub reads_end : 10 ≤ d → read_on v n (drop n s) ≡ Value v n
    reads_end h = ends_of (drop n s) is h

    pub reads_on : d < 10 → (v ≡ 0 → ⊥) → v * 10 + d ≤ 4294967295 → read_on v n (drop n s) ≡ read_on (v * 10 + d) (n + 1) (drop (n + 1) s)
    reads_on h k m =
        let p : 0 < v = omega arith in
        rw (← drop-drop 1 n s) (goes_of (drop n s) is h (rw (lt-ltb _ _ p, le-leb _ _ m)))

    pub leading-zero : d < 10 → v ≡ 0 → read_on v n (drop n s) ≡ Not
    leading-zero h k = fault_of (drop n s) is h (rw k)

    pub too_large : d < 10 → (v ≡ 0 → ⊥) → 4294967295 < v * 10 + d → read_on v n (drop n s) ≡ Not
    too_large h k m =
        let p : 0 < v = omega arith in
        fault_of (drop n s) is h (rw (lt-ltb _ _ p, lt-leb _ _ m))

pub reads_all : (v n : ℕ) (s : List ℕ) → length s ≤ n → read_on v n (drop n s) ≡ Value v n
unfolding read_on
reads_all v n s h = rw (drop_of_length-le s h)

-- a number behind a space
module _ (s : List ℕ) (i : ℕ) where
  pub spaced_past : length s ≤ i → Not ≡ spaced_of (drop i s)
  unfolding spaced_of
  spaced_past h = rw (drop_of_length-le s h)

  pub no_space : i < length s → (get_or s i 0 ≡ 32 → ⊥) → Not ≡ spaced_of (drop i s)
  unfolding spaced_of
  no_space h e = rw (drop-cons s i 0 h, ne_eqb _ _ e)

  -- what stands behind the space is read on from the middle of the part
  pub spaced : i < length s → get_or s i 0 ≡ 32 → number_of (take (length s - (i + 1)) (drop (i + 1) s)) ≡ spaced_of (drop i s)
  unfolding spaced_of
  spaced h e =
      let w : length (drop (i + 1) s) ≤ length s - (i + 1) = omega (arith, length-drop (i + 1) s) in
      rw (take_all (length s - (i + 1)) (drop (i + 1) s) w, add-one i, drop-cons s i 0 h, eq-eqb _ _ e)

-- a number takes at least one byte and no more than there are, and is at most 4,294,967,295
abbrev pub Sized : ℕ → Number → Type 0
Sized room Not = Unit {0}
Sized room (Value value size) = (1 ≤ size) × ((size ≤ room) × (value ≤ 4294967295))

digit_small : (b : ℕ) → ltb (digit_of b) 10 ≡ true → digit_of b ≤ 4294967295
digit_small b e = omega (arith, ltb-true (digit_of b) 10 e)

sized_on : (v n : ℕ) (s : List ℕ) → 1 ≤ n → v ≤ 4294967295 → Sized (n + length s) (read_on v n s)
unfolding read_on
sized_on v n [] h k = (h, (omega arith, k))
sized_on v n (b ∷ rest) h k =
    by-test (ltb (digit_of b) 10)
    (λ d. rw d (by-test (may_follow v (digit_of b))
    (λ e. rw e (
    let m : v * 10 + digit_of b ≤ 4294967295 = leb-true _ _ (both_right (ltb 0 v) _ e) in
    let l : n + suc (length rest) ≡ n + 1 + length rest = omega arith in
    rw l (sized_on (v * 10 + digit_of b) (n + 1) rest (omega arith) m)))
    (λ e. rw e tt)))
    (λ d. rw d (h, (omega arith, k)))

pub number_sized : (s : List ℕ) → Sized (length s) (number_of s)
unfolding number_of
number_sized [] = tt
number_sized (b ∷ rest) =
    by-test (ltb (digit_of b) 10)
    (λ d. rw d (
    let l : suc (length rest) ≡ 1 + length rest = omega arith in
    rw l (sized_on (digit_of b) 1 rest (omega arith) (digit_small b d))))
    (λ d. rw d tt)

-- a number behind a space takes at least two bytes with it
pub spaced_sized : (s : List ℕ) {r : Number} {v n : ℕ} → r ≡ spaced_of s → r ≡ Value v n → (1 ≤ n) × (n + 1 ≤ length s)
unfolding spaced_of
spaced_sized [] is e = let z : ◌≡◌ {A = ℕ} 0 1 = cc in let y : ⊥ = omega arith in absurd y
spaced_sized (b ∷ rest) {r} {v} {n} is e =
    by-test (eqb b 32)
    (λ t. let f : Value v n ≡ number_of rest = sym e ∙ is ∙ rw t in let w = rw (← f) at (number_sized rest) in (w.0, omega arith))
    (λ t. let f : Value v n ≡ Not = sym e ∙ is ∙ rw t in let z : ◌≡◌ {A = ℕ} 0 1 = cc in let y : ⊥ = omega arith in absurd y)

-- The numbers of a text, as a loop reads them.

-- numbers in front of those that are still to be read
abbrev pub before : List ℕ → Read → Read
before front read = record { whole = read.whole; numbers = front ++ read.numbers }

-- what a number takes is passed over
pub skipped : (k : ℕ) (s : List ℕ) → numbers_behind k s ≡ numbers_of (drop k s)
unfolding numbers_behind
skipped zero s = refl
skipped (suc k) [] = refl
skipped (suc k) (b ∷ rest) = skipped k rest

one_more : (front : List ℕ) (v : ℕ) {r t : Read} → r ≡ t → before front (record { whole = r.whole; numbers = v ∷ r.numbers }) ≡ before (front ++ (v ∷ [])) t
one_more front v e = rw (append_assoc, e)

module _ (s : List ℕ) (at : ℕ) (front : List ℕ) where
  pub numbers-end : length s ≤ at → before front (numbers_of (drop at s)) ≡ record { whole = true; numbers = front ++ [] }
  unfolding numbers_behind
  numbers-end h = rw (drop_of_length-le s h)

  module _ (h : at < length s) {r : Number} (is : r ≡ spaced_of (drop at s)) where
    pub numbers-broken : r ≡ Not → before front (numbers_of (drop at s)) ≡ record { whole = false; numbers = front ++ [] }
    unfolding numbers_behind
    numbers-broken e =
        let w : spaced_of (get_or s at 0 ∷ drop (suc at) s) ≡ Not = rw (← drop-cons s at 0 h) (sym is ∙ e) in
        rw (drop-cons s at 0 h, w)

    pub numbers_more : {v n : ℕ} → r ≡ Value v n → before front (numbers_of (drop at s)) ≡ before (front ++ (v ∷ [])) (numbers_of (drop (at + 1 + n) s))
    unfolding numbers_behind
    numbers_more {v} {n} e =
        let w : spaced_of (get_or s at 0 ∷ drop (suc at) s) ≡ Value v n = rw (← drop-cons s at 0 h) (sym is ∙ e) in
        rw (drop-cons s at 0 h, w) (one_more front v (skipped n (drop (suc at) s) ∙ rw (drop-drop n (suc at) s, add-one at)))

-- each number takes two bytes or more of a text
few_then : (s : List ℕ) (r : Number) → r ≡ spaced_of s → (more : ℕ → Read) → ((n : ℕ) → 1 ≤ n → n + 1 ≤ length s → 2 * length (more n).numbers + n + 1 ≤ length s) → 2 * length (read_then r more).numbers ≤ length s
few_then s Not is more h = omega arith
few_then s (Value v n) is more h = let w = spaced_sized s is refl in omega (arith, h n w.0 w.1)

few-behind : (k : ℕ) (s : List ℕ) → k ≤ length s → 2 * length (numbers_behind k s).numbers + k ≤ length s
unfolding numbers_behind
few-behind k [] h = omega arith
few-behind (suc k) (b ∷ rest) h = omega (arith, few-behind k rest (omega arith))
few-behind zero (b ∷ rest) h =
    omega (arith, few_then (b ∷ rest) (spaced_of (b ∷ rest)) refl (λ n. numbers_behind n rest) (λ n l m. omega (arith, few-behind n rest (omega arith))))

pub numbers_few : (s : List ℕ) → 2 * length (numbers_of s).numbers ≤ length s
numbers_few s = omega (arith, few-behind 0 s (omega arith))

-- What the loop that reads numbers into a place for a whole line keeps: those read stand in front, the rest of the place is as it was,
-- and each took two bytes or more.
pub record ReadSoFar (part held numbers : List ℕ) (at count : ℕ) : Type 0 where
  pub read : numbers_of part ≡ before (take count numbers) (numbers_of (drop at part))
  pub rest : drop count numbers ≡ drop count held
  pub size : length numbers ≡ length held
  pub room : numbers_most ≤ length held
  pub apart : count + count ≤ at
  pub within : at ≤ length part

-- A number that is read next: it takes a byte or more, ends in the part, and there is a place for it.
pub record NumberFits (total at size count : ℕ) : Type 0 where
  pub some : 1 ≤ size
  pub within : at + 1 + size ≤ total
  pub room : count < numbers_most

pub read_none : (part held : List ℕ) → numbers_most ≤ length held → ReadSoFar part held held 0 0
read_none part held h = record { read = refl; rest = refl; size = refl; room = h; apart = omega arith; within = omega arith }

module _ (part held numbers : List ℕ) (at count : ℕ) (so : ReadSoFar part held numbers at count) where
  module _ (h : at < length part) {r : Number} (is : r ≡ spaced_of (drop at part)) {v n : ℕ} (e : r ≡ Value v n) where
    pub number_fits : length part ≤ line_most - 1 → NumberFits (length part) at n count
    number_fits m =
        let w = spaced_sized (drop at part) is e in
        let l : at + 1 + n ≤ length part = omega (arith, length-drop at part) in
        record { some = w.0; within = l; room = omega (arith, so.apart) }

    pub read_more : length part ≤ line_most - 1 → ReadSoFar part held (set numbers count v) (at + 1 + n) (count + 1)
    read_more m =
        let fits = number_fits m in
        let f : count < length numbers = omega (arith, so.size, so.room) in
        let g : count < count + 1 = omega arith in
        let t : take (count + 1) (set numbers count v) ≡ take count numbers ++ (v ∷ []) = rw (add-one count) (take-suc-set numbers count v f) in
        record {
          read = so.read ∙ numbers_more part at (take count numbers) h is e ∙ rw t;
          rest = drop-set-lt (count + 1) numbers count v g ∙ sym (drop-drop 1 count numbers) ∙ ap (λ (l : List ℕ). drop 1 l) so.rest ∙ drop-drop 1 count held;
          size = simp length-set so.size;
          room = so.room;
          apart = omega (arith, so.apart);
          within = fits.within;
        }

  -- where the loop stops, all that was read is stored
  stored-all : {w : Bool} → numbers_of part ≡ record { whole = w; numbers = take count numbers ++ [] } → count ≤ numbers_most
      → (cond w (All count) Broken ≡ count_of (numbers_of part)) × (numbers ≡ stored (numbers_of part).numbers held)
  stored-all {w} e h =
      let l : length (take count numbers) ≡ count = length-take-le count numbers (omega (arith, so.size, so.room)) in
      (rw (e, append-nil, l), rw (e, append-nil, l, ← so.rest, take-append-drop))

  pub read-broken : at < length part → {r : Number} → r ≡ spaced_of (drop at part) → r ≡ Not → length part ≤ line_most - 1
      → (Broken ≡ count_of (numbers_of part)) × (numbers ≡ stored (numbers_of part).numbers held)
  read-broken h is e m = stored-all (so.read ∙ numbers-broken part at (take count numbers) h is e) (omega (arith, so.apart))

  pub read_all : length part ≤ at → length part ≤ line_most - 1 → (All count ≡ count_of (numbers_of part)) × (numbers ≡ stored (numbers_of part).numbers held)
  read_all h m = stored-all (so.read ∙ numbers-end part at (take count numbers) h) (omega (arith, so.apart, so.within))
