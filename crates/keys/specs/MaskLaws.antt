-- Laws of masks: the cases of the test, and which servers a mask has.
use Rattle.std.specs.Prelude.{ℕ, zero, suc, ◌*◌, ◌/◌, ◌%◌, ◌^◌, ◌≤◌, ◌<◌, ◌≡◌, true, false, not, eqb}
use Rattle.std.proofs.Common.{sym, ◌∙◌, div-lt_iff_lt-mul, lt_of_lt_of_le, lt_of_not-le, le_of_suc-le-suc, arith, pow_pos, pow_mono, ne_eqb, eqb-true, lt-ltb, le-ltb, ltb-true}
use Rattle.std.proofs.Math.Nat.{div-eq_of_lt, pow-succ'}
use Rattle.std.proofs.lemmas.Bool.{eqb-false, not-true}
use Rattle.ranges.specs.Tests.{by_equal, by-test, both_left, both_right}
use Rattle.keys.specs.Masks.{has_server, mask_within, Within}

-- a number below 2^k has no bit at k or beyond, and the other way round
pub below_shifted : (m k : ℕ) → m < 2 ^ k → m / 2 ^ k ≡ 0
below_shifted m k h = div-eq_of_lt h

pub shifted-below : (m k : ℕ) → m / 2 ^ k ≡ 0 → m < 2 ^ k
shifted-below m k e = let h : m < 1 * 2 ^ k = (div-lt_iff_lt-mul (pow_pos k)).0 (omega arith) in omega arith

-- the test of a mask that is not zero, as the code meets it
module _ (m k : ℕ) where
  pub shifted-mask : (m ≡ 0 → ⊥) → eqb (m / 2 ^ k) 0 ≡ mask_within m k
  shifted-mask d =
      rw (ne_eqb m 0 d)
      (by-test (eqb (m / 2 ^ k) 0)
      (λ e. e ∙ sym (lt-ltb _ _ (shifted-below m k (eqb-true _ _ e))))
      (λ e. e ∙ sym (le-ltb m (2 ^ k) (le_of_suc-le-suc (lt_of_not-le (λ h. eqb-false _ _ e (below_shifted m k h)))))))

pub within-true : (m k : ℕ) → mask_within m k ≡ true → Within m k
within-true m k e =
    let a : not (eqb m 0) ≡ true = both_left _ _ e in
    let d = eqb-false m 0 (not-true _ a) in
    record { some = by_equal m 0 (λ z. absurd (d z)) (λ z. omega arith); below = ltb-true _ _ (both_right (not (eqb m 0)) _ e) }

pub within-test : (m k : ℕ) → Within m k → mask_within m k ≡ true
within-test m k w = rw (ne_eqb m 0 (λ e. omega (arith, w.some)), lt-ltb m (2 ^ k) w.below)

-- a mask below 2^k has no server at k or beyond
pub no-server : (m k i : ℕ) → m < 2 ^ k → k ≤ i → has_server m i ≡ false
no-server m k i h g = rw (below_shifted m i (lt_of_lt_of_le h (pow_mono g)))

-- a mask that is not zero has a server
pub some-server : (m k : ℕ) → Within m k → (i : ℕ) × (i < k) × (has_server m i ≡ true)
some-server m zero w = let z : ⊥ = omega (arith, w.below, w.some) in absurd z
some-server m (suc k) w =
    by-test (has_server m k)
    (λ e. (k, omega arith, e))
    (λ e.
    let h : m < 2 * 2 ^ k = rw (pow-succ' 2 k) at w.below in
    let f : m / 2 ^ k < 2 = (div-lt_iff_lt-mul (pow_pos k)).1 h in
    let g : m / 2 ^ k % 2 ≡ 1 → ⊥ = eqb-false _ _ e in
    let z : m / 2 ^ k ≡ 0 = by_equal (m / 2 ^ k) 0 (λ d. d) (λ d. absurd (g (omega arith))) in
    let s = some-server m k (record { some = w.some; below = shifted-below m k z }) in
    (s.0, omega arith, s.2))
