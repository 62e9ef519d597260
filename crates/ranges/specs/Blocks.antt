-- A search by blocks: where it stops, and what it has found so far.
use Rattle.std.specs.Prelude.{ℕ, zero, suc, ◌+◌, ◌*◌, ◌≤◌, ◌<◌, ◌≡◌, Bool, true, false, ◌||◌, ltb}
use Rattle.std.proofs.Common.{sym, ap, ◌∙◌, arith, ltb-true, lt-ltb}
use Rattle.ranges.specs.Tests.{by-test}
use Rattle.ranges.specs.First.{first_below}
use Rattle.ranges.specs.FirstLaws.{Sought, sought-more, sought-found}

-- a block of so many numbers that reaches beyond n, or is seen to have one that passes, ends the search
abbrev pub ends_at : (ℕ → Bool) → ℕ → ℕ → ℕ → ℕ → Bool
ends_at seen many n from k = ltb n (from + many * k + many) || seen (from + many * k)

-- the first such block, of those that lie one behind another from a number on: where it begins
abbrev pub first_block : (ℕ → Bool) → ℕ → ℕ → ℕ → ℕ
first_block seen many n from = from + many * first_below (ends_at seen many n from) n

-- as many blocks as have a number each
few : (many k : ℕ) → 0 < many → k ≤ many * k
few many zero h = omega arith
few many (suc k) h = omega (arith, few many k h)

module _ (seen : ℕ → Bool) (many n from : ℕ) {at k : ℕ} (here : at ≡ from + many * k)
    (s : Sought (ends_at seen many n from) n k) where
  -- it goes on behind a block of which none is seen to pass
  pub block-more : 0 < many → at + many ≤ n → seen at ≡ false → Sought (ends_at seen many n from) n (k + 1)
  block-more h room none =
      let b : ltb n (from + many * k + many) ≡ false = by-test (ltb n (from + many * k + many))
      (λ e. let z : ⊥ = omega (arith, ltb-true _ _ e, here, room) in absurd z)
      (λ e. e) in
      let none' : seen (from + many * k) ≡ false = ap seen (sym here) ∙ none in
      sought-more (ends_at seen many n from) n s (omega (arith, few many k h, here, room, h)) (rw (b, none'))

  -- and ends where one is seen
  pub block-seen : seen at ≡ true → at ≡ first_block seen many n from
  block-seen e =
      let seen' : seen (from + many * k) ≡ true = ap seen (sym here) ∙ e in
      let ends : ends_at seen many n from k ≡ true = by-test (ltb n (from + many * k + many)) (λ b. rw b) (λ b. rw (b, seen')) in
      here ∙ ap (λ (m : ℕ). from + many * m) (sought-found (ends_at seen many n from) n s ends)

  -- or where the next reaches beyond n
  pub block-last : n < at + many → at ≡ first_block seen many n from
  block-last h =
      let ends : ends_at seen many n from k ≡ true = rw (lt-ltb n (from + many * k + many) (omega (arith, here, h))) in
      here ∙ ap (λ (m : ℕ). from + many * m) (sought-found (ends_at seen many n from) n s ends)

pub block-next : (many from : ℕ) {at : ℕ} (k : ℕ) → at ≡ from + many * k → at + many ≡ from + many * (k + 1)
block-next many from k h = omega (arith, h)

pub block-none : (many from : ℕ) → from ≡ from + many * 0
block-none many from = omega arith
