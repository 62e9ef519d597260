-- Laws of the first number that passes a test, and what a search for it has found so far.
use Prim.Native.Nat.{ℕ, zero, suc, ◌+◌, ◌-◌, ◌≤◌, ◌<◌}
use Rattle.std.specs.Prelude.{◌≡◌, Bool, true, false, ltb}
use Rattle.std.proofs.Common.{sym, ap, ◌∙◌, ltb-true, ltb-false, lt-ltb}
use native.Mathlib.Omega.{arith}
use Rattle.ranges.specs.Tests.{by_equal, by-test, not-both}
use Rattle.ranges.specs.All.{any_below}
use Rattle.ranges.specs.AllLaws.{any_at, any_of}
use Rattle.ranges.specs.First.{first_from, first_below}

-- What makes r the first: it is at most n, all before it fail, and it passes where it is below n.
pub record First (p : ℕ → Bool) (n r : ℕ) : Type 0 where
  pub within : r ≤ n
  pub before : (i : ℕ) → i < r → p i ≡ false
  pub here : r < n → p r ≡ true

module _ (p : ℕ → Bool) where
  -- the search that starts at a finds what makes it the first, of what stands from a on
  first_from_lem : (n a : ℕ) → (a ≤ first_from p n a) × ((first_from p n a ≤ a + n) × (((i : ℕ) → a ≤ i → i < first_from p n a → p i ≡ false) × (first_from p n a < a + n → p (first_from p n a) ≡ true)))
  unfolding first_from
  first_from_lem zero a = (omega arith, (omega arith, (λ i g h. let z : ⊥ = omega arith in absurd z, λ h. let z : ⊥ = omega arith in absurd z)))
  first_from_lem (suc n) a =
      by-test (p a)
      (λ e. rw e (omega arith, (omega arith, (λ i g h. let z : ⊥ = omega arith in absurd z, λ h. e))))
      (λ e.
      let f = first_from_lem n (suc a) in
      rw e (
        omega arith,
        (
          omega arith,
          (
            λ i g h. by_equal i a (λ d. rw d e) (λ d. f.1.1.0 i (omega arith) h),
            λ h. f.1.1.1 (omega arith),
          ),
        ),
      ))

  -- it is the first
  pub first_found : (n : ℕ) → First p n (first_below p n)
  first_found n = let f = first_from_lem n 0 in record { within = omega arith; before = λ i h. f.1.1.0 i (omega arith) h; here = λ h. f.1.1.1 (omega arith) }

  -- it is below n where any below n passes, and else not
  pub first_below_lem : (n i : ℕ) → i < n → p i ≡ true → first_below p n < n
  first_below_lem n i h e =
      by-test (ltb (first_below p n) n)
      (λ b. ltb-true _ _ b)
      (λ b. absurd (not-both e ((first_found n).before i (omega (arith, ltb-false (first_below p n) n b)))))

  pub found_any : (n : ℕ) → ltb (first_below p n) n ≡ any_below p n
  found_any n =
      by-test (any_below p n)
      (λ e. let a = any_of p n e in lt-ltb (first_below p n) n (first_below_lem n a.0 a.1 a.2) ∙ sym e)
      (λ e. by-test (ltb (first_below p n) n)
      (λ b. let h = ltb-true (first_below p n) n b in absurd (not-both (any_at p n (first_below p n) h ((first_found n).here h)) e))
      (λ b. b ∙ sym e))

-- and there is one first only
pub first_one : (p : ℕ → Bool) (n r s : ℕ) → First p n r → First p n s → r ≡ s
first_one p n r s f g =
    by_equal r s (λ e. e)
    (λ d. by-test (ltb r s)
    (λ e. let h = ltb-true r s e in absurd (not-both (f.here (omega (arith, g.within))) (g.before r h)))
    (λ e. let h : s < r = omega (arith, ltb-false r s e) in absurd (not-both (g.here (omega (arith, f.within))) (f.before s h))))

pub first_is : (p : ℕ → Bool) (n : ℕ) {r : ℕ} → First p n r → r ≡ first_below p n
first_is p n {r} f = first_one p n r (first_below p n) f (first_found p n)

pub first-same : (p q : ℕ → Bool) (n : ℕ) → ((i : ℕ) → i < n → p i ≡ q i) → first_below p n ≡ first_below q n
first-same p q n h =
    let f = first_found p n in
    first_is q n (record {
      within = f.within;
      before = λ i l. sym (h i (omega (arith, f.within))) ∙ f.before i l;
      here = λ l. sym (h (first_below p n) l) ∙ f.here l;
    })

-- A search by a loop has come to r, and none before it passes.
pub record Sought (p : ℕ → Bool) (n r : ℕ) : Type 0 where
  pub within : r ≤ n
  pub before : (i : ℕ) → i < r → p i ≡ false

module _ (p : ℕ → Bool) (n : ℕ) where
  pub sought-none : Sought p n 0
  sought-none = record { within = omega arith; before = λ i h. let z : ⊥ = omega arith in absurd z }

  pub sought-more : {r : ℕ} → Sought p n r → r < n → p r ≡ false → Sought p n (r + 1)
  sought-more {r} s h e = record { within = omega arith; before = λ i l. by_equal i r (λ d. rw d e) (λ d. s.before i (omega arith)) }

  pub sought-found : {r : ℕ} → Sought p n r → p r ≡ true → r ≡ first_below p n
  sought-found s e = first_is p n (record { within = s.within; before = s.before; here = λ h. e })

  pub sought-end : {r : ℕ} → Sought p n r → n ≤ r → r ≡ first_below p n
  sought-end {r} s h = first_is p n (record { within = s.within; before = s.before; here = λ l. let z : ⊥ = omega arith in absurd z })

-- A search goes on by m numbers at once, of which none passes: q is the test of those behind r.
pub sought-all : (p q : ℕ → Bool) (n r m : ℕ) → ((i : ℕ) → q i ≡ p (r + i)) → Sought p n r → r + m ≤ n → any_below q m ≡ false →
    Sought p n (r + m)
sought-all p q n r m shifted s room none = record {
  within = room;
  before = λ i l.
      by-test (ltb i r)
      (λ b. s.before i (ltb-true i r b))
      (λ b.
      let d : r + (i - r) ≡ i = omega (arith, ltb-false i r b) in
      let fails : q (i - r) ≡ false = by-test (q (i - r))
      (λ e. absurd (not-both (any_at q m (i - r) (omega (arith, ltb-false i r b)) e) none))
      (λ e. e) in
      ap p (sym d) ∙ sym (shifted (i - r)) ∙ fails);
}
