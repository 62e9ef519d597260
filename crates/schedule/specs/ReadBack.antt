-- What is printed is read back, and nothing else is read: a line names a step exactly where it is that step's text.
use Rattle.std.specs.Prelude.{ℕ, zero, suc, ◌+◌, ◌*◌, ◌/◌, ◌%◌, ◌^◌, ◌≤◌, ◌<◌, ◌≡◌, refl, true, ◌⊎◌, List, [], ◌∷◌, ◌++◌, length, drop, eqb, leb, ltb}
use Rattle.std.proofs.Common.{ap, sym, ◌∙◌, true≢false, inl, inr, append_assoc, mul-suc, arith, length-append, drop_at, le-leb, lt-ltb, ltb-true, ltb-false, leb-true, eqb-true, ne_eqb}
use Rattle.std.proofs.Math.Nat.{pow-succ'}
use Rattle.std.proofs.Math.Seq.{drop-append_seam, drop-nil, append_snoc}
use Rattle.ranges.specs.Tests.{either, by-test, both_left, both_right}
use Rattle.schedule.specs.Number.{Number}
use Rattle.schedule.specs.Number.{Value, Not}
use Rattle.schedule.specs.Lines.{lines_of}
use Rattle.schedule.specs.Decimal.{glyph, digits, decimal, spaced_all}
use Rattle.schedule.specs.DecimalLaws.{decimal-one, decimal-more}
use Rattle.schedule.specs.declared.Step.{Step}
use Rattle.schedule.specs.declared.Step.TheVariants.{Unreadable, Open, BeginWrite, BeginRead, Request, Reply, Lose, Resend}
use Rattle.schedule.specs.Steps.{line_most, badge_most}
use Rattle.schedule.specs.Steps.{Named, unreadable, named_open, named_write, named_pair, named, line_byte, line_numbers, step_text}
use Rattle.schedule.specs.Numbers.{digit_of, digit_head, may_follow, read_on, number_of, spaced_of, Read, read_then, numbers_behind, numbers_of}
use Rattle.schedule.specs.NumberLaws.{skipped, ends_of}

-- a digit's byte is read as that digit, and only that byte is
digit_back : (d : ℕ) → d < 10 → digit_of (glyph d) ≡ d
unfolding digit_of
digit_back d h =
    let a : 48 ≤ 48 + d = omega arith in
    let b : 48 + d ≤ 57 = omega arith in
    rw (le-leb _ _ a, le-leb _ _ b) (omega arith)

digit_only : (b : ℕ) → digit_of b < 10 → b ≡ glyph (digit_of b)
unfolding digit_of
digit_only b = by-test (leb 48 b)
    (λ e. rw e (by-test (leb b 57) (λ d. rw d (λ h. omega (arith, leb-true 48 b e))) (λ d. rw d (λ h. let z : ⊥ = omega arith in absurd z))))
    (λ e. rw e (λ h. let z : ⊥ = omega arith in absurd z))

-- the first digit, and one more
first_back : (d : ℕ) (rest : List ℕ) → d < 10 → number_of (glyph d ∷ rest) ≡ read_on d 1 rest
unfolding number_of
first_back d rest h = rw (digit_back d h, lt-ltb _ _ h)

next_back : (v n d : ℕ) (rest : List ℕ) → d < 10 → 0 < v → v * 10 + d ≤ 4294967295 → read_on v n (glyph d ∷ rest) ≡ read_on (v * 10 + d) (n + 1) rest
unfolding read_on
next_back v n d rest h p m = rw (digit_back d h, lt-ltb _ _ h, lt-ltb _ _ p, le-leb _ _ m)

-- The digits of a number are read as that number, whatever follows; k bounds how many there are.
one_back : (n : ℕ) (rest : List ℕ) → n < 10 → number_of (decimal n ++ rest) ≡ read_on n (length (decimal n)) rest
one_back n rest h = rw (decimal-one n h) (first_back n rest h)

digits_back : (k n : ℕ) (rest : List ℕ) → n < 10 ^ suc k → n ≤ 4294967295 → number_of (decimal n ++ rest) ≡ read_on n (length (decimal n)) rest
digits_back zero n rest h m = let l : n < 10 = omega arith in one_back n rest l
digits_back (suc k) n rest h m =
    by-test (ltb n 10)
    (λ e. one_back n rest (ltb-true n 10 e))
    (λ e.
    let l : 10 ≤ n = ltb-false n 10 e in
    let p : 10 ^ suc (suc k) ≡ 10 * 10 ^ suc k = pow-succ' 10 (suc k) in
    let b : n / 10 < 10 ^ suc k = omega arith in
    let v : n / 10 * 10 + n % 10 ≡ n = omega arith in
    let w = next_back (n / 10) (length (decimal (n / 10))) (n % 10) rest (omega arith) (omega arith) (omega arith) in
    rw (decimal-more n (omega arith) l, length-append, append_assoc)
    (digits_back k (n / 10) (glyph (n % 10) ∷ rest) b (omega arith) ∙ rw v at w))

-- A printed number is read back as that number, where no digit follows.
pub number_back : (n : ℕ) (rest : List ℕ) → n ≤ 4294967295 → 10 ≤ digit_head rest → number_of (decimal n ++ rest) ≡ Value n (length (decimal n))
number_back n rest h k =
    let b : n < 10000000000 = omega arith in
    digits_back 9 n rest b h ∙ ends_of n (length (decimal n)) rest refl k

-- numbers that a line can hold
abbrev pub AllFit : List ℕ → Type 0
AllFit [] = Unit {0}
AllFit (n ∷ rest) = (n ≤ 4294967295) × AllFit rest

no_digit-first : (l : List ℕ) → 10 ≤ digit_head (spaced_all l)
unfolding digit_head digit_of spaced_all
no_digit-first [] = omega arith
no_digit-first (n ∷ rest) = omega arith

-- one number, and those behind it
numbers_then : (n : ℕ) (rest : List ℕ) → n ≤ 4294967295 → 10 ≤ digit_head rest → numbers_of (32 ∷ (decimal n ++ rest)) ≡ record { whole = (numbers_of rest).whole; numbers = n ∷ (numbers_of rest).numbers }
unfolding numbers_behind spaced_of
numbers_then n rest h k =
    let s : numbers_behind (length (decimal n)) (decimal n ++ rest) ≡ numbers_of rest = skipped (length (decimal n)) (decimal n ++ rest) ∙ rw (drop-append_seam (decimal n) rest) in
    rw (number_back n rest h k) (ap (λ (r : Read). record { whole = r.whole; numbers = n ∷ r.numbers }) s)

-- A printed row of numbers is read back as those numbers.
none_back : numbers_of (spaced_all []) ≡ record { whole = true; numbers = [] }
unfolding numbers_behind spaced_all
none_back = refl

spaced_nil : spaced_all [] ≡ []
unfolding spaced_all
spaced_nil = refl

spaced_cons : (n : ℕ) (rest : List ℕ) → spaced_all (n ∷ rest) ≡ 32 ∷ (decimal n ++ spaced_all rest)
unfolding spaced_all
spaced_cons n rest = refl

pub numbers_back : (l : List ℕ) → AllFit l → numbers_of (spaced_all l) ≡ record { whole = true; numbers = l }
numbers_back [] f = none_back
numbers_back (n ∷ rest) f =
    rw (spaced_cons n rest) (numbers_then n (spaced_all rest) f.0 (no_digit-first rest) ∙ ap (λ (r : Read). record { whole = r.whole; numbers = n ∷ r.numbers }) (numbers_back rest f.1))

-- A step that a line can hold: numbers that fit, no more bytes than a line has, setpoints only in an opening and in a WRITE,
-- whose badge has 16 bits.
abbrev Shaped : Step → List ℕ → Type 0
Shaped Unreadable setpoints = ⊥
Shaped (Open method servers clients) setpoints = Unit {0}
Shaped (BeginWrite client mask badge) setpoints = badge ≤ badge_most
Shaped (BeginRead client mask) setpoints = setpoints ≡ []
Shaped (Request client target) setpoints = setpoints ≡ []
Shaped (Reply client target) setpoints = setpoints ≡ []
Shaped (Lose client target) setpoints = setpoints ≡ []
Shaped (Resend client target) setpoints = setpoints ≡ []

pub record FitsLine (n : Named) : Type 0 where
  pub numbers : AllFit (line_numbers n.step n.setpoints)
  pub size : length (step_text n) ≤ line_most
  pub shape : Shaped n.step n.setpoints

pub named_back : (step : Step) (setpoints : List ℕ) → Shaped step setpoints
    → named (line_byte step) (line_numbers step setpoints) ≡ record { step = step; setpoints = setpoints }
named_back Unreadable setpoints h = absurd h
named_back (Open method servers clients) setpoints h = refl
named_back (BeginWrite client mask badge) setpoints h = rw (le-leb _ _ h)
named_back (BeginRead client mask) setpoints h = rw h
named_back (Request client target) setpoints h = rw h
named_back (Reply client target) setpoints h = rw h
named_back (Lose client target) setpoints h = rw h
named_back (Resend client target) setpoints h = rw h

-- A printed step is one line, whatever stands behind its byte 10: no byte of its text is one.
abbrev NoTen : List ℕ → Type 0
NoTen [] = Unit {0}
NoTen (byte ∷ rest) = (byte ≡ 10 → ⊥) × NoTen rest

no_ten-append : (a b : List ℕ) → NoTen a → NoTen b → NoTen (a ++ b)
no_ten-append [] b f g = g
no_ten-append (byte ∷ a) b f g = (f.0, no_ten-append a b f.1 g)

glyph_no_ten : (d : ℕ) → NoTen (glyph d ∷ [])
glyph_no_ten d = (λ e. omega arith, tt)

digits_no_ten : (most n : ℕ) → NoTen (digits most n)
unfolding digits
digits_no_ten zero n = tt
digits_no_ten (suc most) n =
    either NoTen (ltb n 10) (glyph_no_ten n)
    (no_ten-append (digits most (n / 10)) (glyph (n % 10) ∷ []) (digits_no_ten most (n / 10)) (glyph_no_ten (n % 10)))

spaced_no_ten : (l : List ℕ) → NoTen (spaced_all l)
unfolding spaced_all
spaced_no_ten [] = tt
spaced_no_ten (n ∷ rest) = (λ e. omega arith, no_ten-append (decimal n) (spaced_all rest) (digits_no_ten 20 n) (spaced_no_ten rest))

byte_no_ten : (step : Step) → line_byte step ≡ 10 → ⊥
byte_no_ten Unreadable e = omega arith
byte_no_ten (Open method servers clients) e = omega arith
byte_no_ten (BeginWrite client mask badge) e = omega arith
byte_no_ten (BeginRead client mask) e = omega arith
byte_no_ten (Request client target) e = omega arith
byte_no_ten (Reply client target) e = omega arith
byte_no_ten (Lose client target) e = omega arith
byte_no_ten (Resend client target) e = omega arith

first-line : (text rest : List ℕ) → NoTen text → lines_of (text ++ (10 ∷ rest)) ≡ text ∷ lines_of rest
unfolding lines_of
first-line [] rest f = refl
first-line (byte ∷ text) rest f = rw (ne_eqb byte 10 f.0, first-line text rest f.1)

pub step_line : (n : Named) (rest : List ℕ) → lines_of (step_text n ++ (10 ∷ rest)) ≡ step_text n ∷ lines_of rest
step_line n rest =
    first-line (step_text n) rest (byte_no_ten n.step, spaced_no_ten (line_numbers n.step n.setpoints))

-- How long a row of numbers is as text, by the digits that each has at most.
abbrev pub AllShort : ℕ → List ℕ → Type 0
AllShort most [] = Unit {0}
AllShort most (n ∷ rest) = (length (decimal n) ≤ most) × AllShort most rest

pub spaced_short : (most : ℕ) (l : List ℕ) → AllShort most l → length (spaced_all l) ≤ (1 + most) * length l
unfolding spaced_all
spaced_short most [] f = omega arith
spaced_short most (n ∷ rest) f =
    rw (mul-suc (1 + most) (length rest), length-append (decimal n) (spaced_all rest))
    (omega (arith, f.0, spaced_short most rest f.1))

-- The other way: what is read is the text of what it is read as.

never : {C : Type 0} {w m : ℕ} → Not ≡ Value w m → C
never e = let z : ◌≡◌ {A = ℕ} 0 1 = cc in let y : ⊥ = omega arith in absurd y

-- the number is read: its digits stand in front
read_done : {v n w m : ℕ} (front s : List ℕ) → front ≡ decimal v → length front ≡ n → Value v n ≡ Value w m → front ++ s ≡ decimal w ++ drop m (front ++ s)
read_done {v} {n} {w} {m} front s d l e =
    let p : v ≡ w = cc in
    let q : n ≡ m = cc in
    rw (drop_at front s m (l ∙ q), ← p, ← d)

-- the digits of a number and one digit more
digit-more : (v d : ℕ) → may_follow v d ≡ true → d < 10 → decimal (v * 10 + d) ≡ decimal v ++ (glyph d ∷ [])
digit-more v d f h =
    let p : 0 < v = ltb-true 0 v (both_left (ltb 0 v) _ f) in
    let m : v * 10 + d ≤ 4294967295 = leb-true _ _ (both_right (ltb 0 v) _ f) in
    let a : (v * 10 + d) / 10 ≡ v = omega arith in
    let b : (v * 10 + d) % 10 ≡ d = omega arith in
    decimal-more (v * 10 + d) (omega arith) (omega arith) ∙ rw (a, b)

-- front, the digits of v, was read, and s is read on
only_on : (v n : ℕ) (front s : List ℕ) {w m : ℕ} → front ≡ decimal v → length front ≡ n → read_on v n s ≡ Value w m → front ++ s ≡ decimal w ++ drop m (front ++ s)
unfolding read_on
only_on v n front [] d l e = read_done front [] d l e
only_on v n front (c ∷ rest) {w} {m} d l e =
    by-test (ltb (digit_of c) 10)
    (λ g. by-test (may_follow v (digit_of c))
    (λ h.
    let r : read_on (v * 10 + digit_of c) (n + 1) rest ≡ Value w m = rw (g, h) at e in
    let k : digit_of c < 10 = ltb-true (digit_of c) 10 g in
    let f : front ++ (c ∷ []) ≡ decimal (v * 10 + digit_of c) = rw (digit-more v (digit_of c) h k, ← digit_only c k, d) in
    rw append_snoc at (only_on (v * 10 + digit_of c) (n + 1) (front ++ (c ∷ [])) rest f (rw length-append (omega arith)) r))
    (λ h. never (rw (g, h) at e)))
    (λ g. read_done front (c ∷ rest) d l (rw g at e))

-- The bytes that are read as a number are its decimal text.
pub number_only : (s : List ℕ) {w m : ℕ} → number_of s ≡ Value w m → s ≡ decimal w ++ drop m s
unfolding number_of
number_only [] e = never e
number_only (c ∷ rest) e =
    by-test (ltb (digit_of c) 10)
    (λ g.
    let k : digit_of c < 10 = ltb-true (digit_of c) 10 g in
    let f : c ∷ [] ≡ decimal (digit_of c) = rw (decimal-one (digit_of c) k, ← digit_only c k) in
    only_on (digit_of c) 1 (c ∷ []) rest f refl (rw g at e))
    (λ g. never (rw g at e))

-- A part that is read as numbers to its end is the text of those numbers.
space-first : (b : ℕ) (rest : List ℕ) {v n : ℕ} → spaced_of (b ∷ rest) ≡ Value v n → (b ≡ 32) × (number_of rest ≡ Value v n)
unfolding spaced_of
space-first b rest e = by-test (eqb b 32) (λ g. (eqb-true b 32 g, rw g at e)) (λ g. never (rw g at e))

only_then : (b : ℕ) (rest : List ℕ) → ((n : ℕ) → (numbers_behind n rest).whole ≡ true → drop n rest ≡ spaced_all (numbers_behind n rest).numbers)
    → (r : Number) → spaced_of (b ∷ rest) ≡ r → (read_then r (λ n. numbers_behind n rest)).whole ≡ true
    → b ∷ rest ≡ spaced_all (read_then r (λ n. numbers_behind n rest)).numbers
only_then b rest more Not is e = absurd (true≢false (sym e))
only_then b rest more (Value v n) is e =
    let w = space-first b rest is in
    rw (spaced_cons v (numbers_behind n rest).numbers, ← more n e) (ap (λ (x : ℕ). x ∷ rest) w.0 ∙ ap (λ (t : List ℕ). 32 ∷ t) (number_only rest w.1))

only-behind : (k : ℕ) (s : List ℕ) → (numbers_behind k s).whole ≡ true → drop k s ≡ spaced_all (numbers_behind k s).numbers
unfolding numbers_behind
only-behind k [] e = drop-nil k ∙ sym spaced_nil
only-behind (suc k) (b ∷ rest) e = only-behind k rest e
only-behind zero (b ∷ rest) e = only_then b rest (λ n h. only-behind n rest h) (spaced_of (b ∷ rest)) refl e

pub numbers_only : (s : List ℕ) → (numbers_of s).whole ≡ true → s ≡ spaced_all (numbers_of s).numbers
numbers_only s e = only-behind 0 s e

-- a text names no step, or it is the text of the step
abbrev pub Told : List ℕ → Named → Type 0
Told text n = (n ≡ unreadable) ⊎ (text ≡ step_text n)

module _ (byte : ℕ) where
  pub told_open : (l : List ℕ) → byte ≡ 79 → Told (byte ∷ spaced_all l) (named_open l)
  told_open [] e = inl refl
  told_open (a ∷ []) e = inl refl
  told_open (a ∷ b ∷ []) e = inl refl
  told_open (a ∷ b ∷ c ∷ l) e = inr (rw e)

  pub told-write : (l : List ℕ) → byte ≡ 87 → Told (byte ∷ spaced_all l) (named_write l)
  told-write [] e = inl refl
  told-write (a ∷ []) e = inl refl
  told-write (a ∷ b ∷ []) e = inl refl
  told-write (a ∷ b ∷ c ∷ l) e = by-test (leb c badge_most) (λ h. rw h (inr (rw e))) (λ h. rw h (inl refl))

  pub told-pair : (l : List ℕ) → Told (byte ∷ spaced_all l) (named_pair byte l)
  told-pair [] = inl refl
  told-pair (a ∷ []) = inl refl
  told-pair (a ∷ b ∷ []) =
      by-test (eqb byte 82) (λ e. rw e (inr (rw (eqb-true byte 82 e))))
      (λ d. rw d (by-test (eqb byte 62) (λ e. rw e (inr (rw (eqb-true byte 62 e))))
      (λ f. rw f (by-test (eqb byte 60) (λ e. rw e (inr (rw (eqb-true byte 60 e))))
      (λ g. rw g (by-test (eqb byte 33) (λ e. rw e (inr (rw (eqb-true byte 33 e))))
      (λ h. rw h (by-test (eqb byte 43) (λ e. rw e (inr (rw (eqb-true byte 43 e)))) (λ e. rw e (inl refl))))))))))
  told-pair (a ∷ b ∷ c ∷ l) = inl refl
