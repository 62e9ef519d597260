-- Words of a list as they are.
use Rattle.std.specs.Prelude.{ℕ, ◌+◌, ◌≡◌, Bool, List, eqb, ltb, get_or, replicate}
use Rattle.std.proofs.lemmas.List.{length-replicate, get_or-replicate}
use Rattle.std.proofs.Math.ListN.{get_or-eq_default}
use Rattle.std.proofs.Common.{ltb-true, ltb-false}
use Rattle.ranges.specs.Tests.{by-test}

-- the i-th word from start on equals a word
abbrev pub equal_from : List ℕ → ℕ → ℕ → ℕ → Bool
equal_from words start word i = eqb (get_or words (start + i) 0) word

-- a list of nothing but 0 reads as 0 everywhere, behind its end too
pub zeros : (n i : ℕ) → get_or {A = ℕ} (replicate n 0) i 0 ≡ 0
zeros n i =
    by-test (ltb i n)
    (λ b. get_or-replicate n i 0 0 (ltb-true _ _ b))
    (λ b. get_or-eq_default (replicate n 0) 0 (rw (length-replicate {A = ℕ} n 0) (ltb-false _ _ b)))
