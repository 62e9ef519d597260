-- Laws of digits: a number of four digits or fewer is its digits, and a longer one the number before its last four, and these.
use Rattle.std.specs.Prelude.{ℕ, ◌+◌, ◌/◌, ◌%◌, ◌≤◌, ◌<◌, ◌≡◌, length}
use Rattle.std.proofs.Math.Path.{refl}
use Rattle.std.proofs.Common.{◌∙◌, length-append}
use mathlib.Core.List.{List, [], ◌∷◌, ◌++◌, append_assoc}
use native.Mathlib.Omega.{arith}
use Rattle.schedule.specs.Decimal.{glyph, decimal}
use Rattle.schedule.specs.DecimalLaws.{decimal-one, decimal-more}
use Rattle.printing.specs.Printed.{Printed}
use Rattle.printing.specs.PrintedLaws.{printed_then}
use Rattle.printing.specs.Digits.{last_digits}

module _ (n : ℕ) where
  pub two_long : length (last_digits 2 n) ≡ 2
  unfolding last_digits
  two_long = refl

  -- two digits are those of a number below 100
  pub two-last : n < 100 → (glyph (n / 10) ∷ []) ++ (glyph (n % 10) ∷ []) ≡ last_digits 2 n
  unfolding last_digits
  two-last h =
      let e : n / 10 % 10 ≡ n / 10 = omega arith in
      rw e

  -- four digits are twice two
  pub four-last : last_digits 2 (n / 100) ++ last_digits 2 (n % 100) ≡ last_digits 4 n
  unfolding last_digits
  four-last =
      let a : n / 100 / 10 % 10 ≡ n / 10 / 10 / 10 % 10 = omega arith in
      let b : n / 100 % 10 ≡ n / 10 / 10 % 10 = omega arith in
      let c : n % 100 / 10 % 10 ≡ n / 10 % 10 = omega arith in
      let d : n % 100 % 10 ≡ n % 10 = omega arith in
      rw (a, b, c, d)

-- a number of two, three and four digits
module _ (n : ℕ) where
  pub decimal-two : 10 ≤ n → n < 100 → decimal n ≡ last_digits 2 n
  decimal-two h k =
      decimal-more n (omega arith) h ∙ rw (decimal-one (n / 10) (omega arith)) (two-last n k)

  pub decimal-three : 100 ≤ n → n < 1000 → decimal n ≡ (glyph (n / 100) ∷ []) ++ last_digits 2 (n % 100)
  decimal-three h k =
      let a : n / 10 / 10 ≡ n / 100 = omega arith in
      let b : n / 10 % 10 ≡ n % 100 / 10 = omega arith in
      let c : n % 10 ≡ n % 100 % 10 = omega arith in
      decimal-more n (omega arith) (omega arith)
      ∙ rw (
        decimal-more (n / 10) (omega arith) (omega arith),
        decimal-one (n / 10 / 10) (omega arith),
        a,
        b,
        c,
        ← two-last (n % 100) (omega arith),
      )

  pub decimal_four : 1000 ≤ n → n < 10000 → decimal n ≡ last_digits 4 n
  unfolding last_digits
  decimal_four h k =
      let a : n / 10 / 10 / 10 % 10 ≡ n / 10 / 10 / 10 = omega arith in
      decimal-more n (omega arith) (omega arith)
      ∙ rw (
        decimal-more (n / 10) (omega arith) (omega arith),
        decimal-more (n / 10 / 10) (omega arith) (omega arith),
        decimal-one (n / 10 / 10 / 10) (omega arith),
        a,
      )

  -- a number of five digits or more
  pub decimal_long : n < 18446744073709551616 → 10000 ≤ n → decimal n ≡ decimal (n / 10000) ++ last_digits 4 (n % 10000)
  unfolding last_digits
  decimal_long k h =
      let head : n / 10 / 10 / 10 / 10 ≡ n / 10000 = omega arith in
      let a : n / 10 / 10 / 10 % 10 ≡ n % 10000 / 10 / 10 / 10 % 10 = omega arith in
      let b : n / 10 / 10 % 10 ≡ n % 10000 / 10 / 10 % 10 = omega arith in
      let c : n / 10 % 10 ≡ n % 10000 / 10 % 10 = omega arith in
      let d : n % 10 ≡ n % 10000 % 10 = omega arith in
      decimal-more n k (omega arith)
      ∙ rw (
        decimal-more (n / 10) (omega arith) (omega arith),
        decimal-more (n / 10 / 10) (omega arith) (omega arith),
        decimal-more (n / 10 / 10 / 10) (omega arith) (omega arith),
        head,
        append_assoc,
        append_assoc,
        append_assoc,
        a,
        b,
        c,
        d,
      )

-- how many digits there are
module _ (n : ℕ) where
  pub two-length : 10 ≤ n → n < 100 → length (decimal n) ≡ 2
  unfolding last_digits
  two-length h k = rw (decimal-two n h k)

  pub three-length : 100 ≤ n → n < 1000 → length (decimal n) ≡ 3
  unfolding last_digits
  three-length h k = rw (decimal-three n h k)

  pub four-length : 1000 ≤ n → n < 10000 → length (decimal n) ≡ 4
  unfolding last_digits
  four-length h k = rw (decimal_four n h k)

  pub long-length : n < 18446744073709551616 → 10000 ≤ n → length (decimal n) ≡ length (decimal (n / 10000)) + 4
  unfolding last_digits
  long-length k h = rw (decimal_long n k h, length-append)

-- Two digits, four digits and a number are printed part by part.
module _ (out : List ℕ) (at n : ℕ) (fits : at ≤ length out) {left last : List ℕ} {next end : ℕ} where
  pub printed-two : n < 100 → Printed out at (glyph (n / 10) ∷ []) next left → Printed left next (glyph (n % 10) ∷ []) end last
      → Printed out at (last_digits 2 n) end last
  printed-two h p q = rw (← two-last n h) (printed_then out (glyph (n / 10) ∷ []) (glyph (n % 10) ∷ []) at fits p q)

  pub printed_four : Printed out at (last_digits 2 (n / 100)) next left → Printed left next (last_digits 2 (n % 100)) end last
      → Printed out at (last_digits 4 n) end last
  printed_four p q = rw (← four-last n) (printed_then out (last_digits 2 (n / 100)) (last_digits 2 (n % 100)) at fits p q)

  pub printed-three : 100 ≤ n → n < 1000 → Printed out at (glyph (n / 100) ∷ []) next left
      → Printed left next (last_digits 2 (n % 100)) end last → Printed out at (decimal n) end last
  printed-three h k p q = rw (decimal-three n h k) (printed_then out (glyph (n / 100) ∷ []) (last_digits 2 (n % 100)) at fits p q)

  pub printed_long : n < 18446744073709551616 → 10000 ≤ n → Printed out at (decimal (n / 10000)) next left
      → Printed left next (last_digits 4 (n % 10000)) end last → Printed out at (decimal n) end last
  printed_long k h p q = rw (decimal_long n k h) (printed_then out (decimal (n / 10000)) (last_digits 4 (n % 10000)) at fits p q)
