-- Laws of numbers as text: a digit more, how long a text is, and that a row of numbers grows at its end.
use Rattle.std.specs.Prelude.{ℕ, zero, suc, ◌+◌, ◌*◌, ◌/◌, ◌%◌, ◌^◌, ◌≤◌, ◌<◌, ◌≡◌, refl, List, [], ◌∷◌, ◌++◌, length, take, get_or, ltb}
use Rattle.std.proofs.Common.{sym, ◌∙◌, append_assoc, append-nil, arith, add-one, length-append, take-suc, lt-ltb, le-ltb, ltb-true, ltb-false}
use Rattle.std.proofs.Math.Nat.{pow-succ'}
use Rattle.ranges.specs.Tests.{either, by-test}
use Rattle.schedule.specs.Decimal.{glyph, digits, decimal, spaced_all}

-- one digit, where there is room for one
one_digit : (most n : ℕ) → n < 10 → digits (suc most) n ≡ glyph n ∷ []
unfolding digits
one_digit most n h = rw (lt-ltb _ _ h)

more-digits : (most n : ℕ) → 10 ≤ n → digits (suc most) n ≡ digits most (n / 10) ++ (glyph (n % 10) ∷ [])
unfolding digits
more-digits most n h = rw (le-ltb _ _ h)

-- room for one digit more changes nothing, where there was enough
digits-enough : (most n : ℕ) → n < 10 ^ suc most → digits (suc (suc most)) n ≡ digits (suc most) n
digits-enough zero n h =
    let k : n < 10 = omega arith in
    one_digit 1 n k ∙ sym (one_digit 0 n k)
digits-enough (suc most) n h =
    by-test (ltb n 10)
    (λ e. let k : n < 10 = ltb-true n 10 e in one_digit (suc (suc most)) n k ∙ sym (one_digit (suc most) n k))
    (λ e.
    let k : 10 ≤ n = ltb-false n 10 e in
    let p : 10 ^ suc (suc most) ≡ 10 * 10 ^ suc most = pow-succ' 10 (suc most) in
    let l : n / 10 < 10 ^ suc most = omega arith in
    more-digits (suc (suc most)) n k ∙ rw (digits-enough most (n / 10) l) (sym (more-digits (suc most) n k)))

-- A number of 64 bits: one digit, or the digits before the last and the last.
pub decimal-one : (n : ℕ) → n < 10 → decimal n ≡ glyph n ∷ []
decimal-one n h = one_digit 19 n h

pub decimal-more : (n : ℕ) → n < 18446744073709551616 → 10 ≤ n → decimal n ≡ decimal (n / 10) ++ (glyph (n % 10) ∷ [])
decimal-more n h k =
    let l : n / 10 < 10 ^ 19 = omega arith in
    more-digits 19 n k ∙ rw (digits-enough 18 (n / 10) l)

-- how long a text is: a number below 10 to the k takes at most k digits, and each takes one
digits_short : (most k n : ℕ) → n < 10 ^ suc k → length (digits most n) ≤ suc k
unfolding digits
digits_short zero k n h = omega arith
digits_short (suc most) zero n h = let l : n < 10 = omega arith in rw (lt-ltb _ _ l) (omega arith)
digits_short (suc most) (suc k) n h =
    let p : 10 ^ suc (suc k) ≡ 10 * 10 ^ suc k = pow-succ' 10 (suc k) in
    let l : n / 10 < 10 ^ suc k = omega arith in
    either (λ (t : List ℕ). length t ≤ suc (suc k)) (ltb n 10)
    (omega arith)
    (rw length-append (omega (arith, digits_short most k (n / 10) l)))

pub decimal_short : (n : ℕ) → n < 18446744073709551616 → length (decimal n) ≤ 20
decimal_short n h = let k : n < 100000000000000000000 = omega arith in digits_short 20 19 n k

-- a number of 32 bits takes at most 10
pub word_short : (n : ℕ) → n < 4294967296 → length (decimal n) ≤ 10
word_short n h = let k : n < 10000000000 = omega arith in digits_short 20 9 n k

-- a number below 100 at most 2
pub two_short : (n : ℕ) → n < 100 → length (decimal n) ≤ 2
two_short n h = digits_short 20 1 n h

pub spaced-append : (a b : List ℕ) → spaced_all (a ++ b) ≡ spaced_all a ++ spaced_all b
unfolding spaced_all
spaced-append [] b = refl
spaced-append (n ∷ rest) b = rw (spaced-append rest b, append_assoc)

pub spaced-one : (n : ℕ) → spaced_all (n ∷ []) ≡ 32 ∷ decimal n
unfolding spaced_all
spaced-one n = rw append-nil

-- one number more at the end of a row
pub spaced-more : (l : List ℕ) (i : ℕ) → i < length l → spaced_all (take (i + 1) l) ≡ spaced_all (take i l) ++ (32 ∷ decimal (get_or l i 0))
spaced-more l i h = rw (add-one i, take-suc l i 0 h, spaced-append, spaced-one)
