-- A list of words in rows of w words: row r begins at word w * r.
use Rattle.std.specs.Prelude.{ℕ, zero, suc, ◌+◌, ◌*◌, ◌≤◌, ◌<◌, ◌≡◌, refl, List, [], ◌∷◌, get_or, set, length, ltb}
use Rattle.std.proofs.Common.{◌∙◌, ap, mul-suc, mul-le-mul_left, arith, length-set, get_or-set_same, get_or-set_other, ltb-true, ltb-false}
use Rattle.std.proofs.lemmas.List.{set_comm}
use Rattle.std.proofs.lemmas.List.Edits.{sets}
use Rattle.std.proofs.Math.Seq.{length-sets}
use Rattle.ranges.specs.Tests.{by_equal, by-test}

-- word f of row r
abbrev pub word_at : ℕ → List ℕ → ℕ → ℕ → ℕ
word_at w xs r f = get_or xs (w * r + f) 0

-- word f of row r becomes v
abbrev pub put_word : ℕ → List ℕ → ℕ → ℕ → ℕ → List ℕ
put_word w xs r f v = set xs (w * r + f) v

-- the words of row r become those of a list
abbrev pub put_row : ℕ → List ℕ → ℕ → List ℕ → List ℕ
put_row w xs r row = sets xs (w * r) row

-- the list has row r whole
abbrev pub HasRow : ℕ → List ℕ → ℕ → Type 0
HasRow w xs r = w * r + w ≤ length xs

-- a row begins behind every row before it
behind : (w r s : ℕ) → r < s → w * r + w ≤ w * s
behind w r s h = rw mul-suc at (mul-le-mul_left w h)

-- two words stand at different places unless row and field are the same
pub place-one : (w r f s g : ℕ) → f < w → g < w → w * r + f ≡ w * s + g → (r ≡ s) × (f ≡ g)
place-one w r f s g hf hg e =
    by_equal r s
    (λ d. (d, let z : w * r ≡ w * s = rw d in omega arith))
    (λ d. by-test (ltb r s)
    (λ b. let z : ⊥ = omega (arith, behind w r s (ltb-true r s b)) in absurd z)
    (λ b. let l : s < r = omega (arith, ltb-false r s b) in let z : ⊥ = omega (arith, behind w s r l) in absurd z))

module _ (w : ℕ) (xs : List ℕ) (r f v : ℕ) where
  -- what is put is read back
  pub word_same : HasRow w xs r → f < w → word_at w (put_word w xs r f v) r f ≡ v
  word_same h g = get_or-set_same xs (w * r + f) v 0 (omega arith)

  -- every other word stays
  pub word_other : (s g : ℕ) → f < w → g < w → ((s ≡ r) × (g ≡ f) → ⊥) → word_at w (put_word w xs r f v) s g ≡ word_at w xs s g
  word_other s g hf hg d = get_or-set_other xs (w * r + f) (w * s + g) v 0 (λ e. d (place-one w s g r f hg hf e))

  pub word-length : length (put_word w xs r f v) ≡ length xs
  word-length = length-set xs (w * r + f) v

-- several words put from a place on
pub sets-before : (row xs : List ℕ) (at j : ℕ) → j < at → get_or (sets xs at row) j 0 ≡ get_or xs j 0
sets-before [] xs at j h = refl
sets-before (v ∷ row) xs at j h = sets-before row (set xs at v) (suc at) j (omega arith) ∙ get_or-set_other xs at j v 0 (λ e. omega arith)

pub sets_behind : (row xs : List ℕ) (at j : ℕ) → at + length row ≤ j → get_or (sets xs at row) j 0 ≡ get_or xs j 0
sets_behind [] xs at j h = refl
sets_behind (v ∷ row) xs at j h = sets_behind row (set xs at v) (suc at) j (omega arith) ∙ get_or-set_other xs at j v 0 (λ e. omega arith)

pub sets_at : (row xs : List ℕ) (at f : ℕ) → f < length row → at + length row ≤ length xs → get_or (sets xs at row) (at + f) 0 ≡ get_or row f 0
sets_at [] xs at f h g = let z : ⊥ = omega arith in absurd z
sets_at (v ∷ row) xs at zero h g =
    let e : at + 0 ≡ at = omega arith in
    rw e (sets-before row (set xs at v) (suc at) at (omega arith) ∙ get_or-set_same xs at v 0 (omega arith))
sets_at (v ∷ row) xs at (suc f) h g =
    let e : at + suc f ≡ suc at + f = omega arith in
    rw e (sets_at row (set xs at v) (suc at) f (omega arith) (rw length-set (omega arith)))

module _ (w : ℕ) (xs : List ℕ) (r : ℕ) (row : List ℕ) where
  -- what is put is read back
  pub row_same : (f : ℕ) → HasRow w xs r → length row ≤ w → f < length row → word_at w (put_row w xs r row) r f ≡ get_or row f 0
  row_same f h l g = sets_at row xs (w * r) f g (omega arith)

  -- every other row stays
  pub row_other : (s g : ℕ) → length row ≤ w → g < w → (s ≡ r → ⊥) → word_at w (put_row w xs r row) s g ≡ word_at w xs s g
  row_other s g l h d =
      by-test (ltb s r)
      (λ b. sets-before row xs (w * r) (w * s + g) (omega (arith, behind w s r (ltb-true s r b))))
      (λ b. let lt : r < s = by_equal s r (λ e. absurd (d e)) (λ e. omega (arith, ltb-false s r b)) in
      sets_behind row xs (w * r) (w * s + g) (omega (arith, behind w r s lt)))

  pub row-length : length (put_row w xs r row) ≡ length xs
  row-length = length-sets xs (w * r) row

-- Two runs of words that have no place in common may be put in either order.
set_swap : (row xs : List ℕ) (at j v : ℕ) → ((g : ℕ) → g < length row → j ≡ at + g → ⊥) →
    sets (set xs j v) at row ≡ set (sets xs at row) j v
set_swap [] xs at j v d = refl
set_swap (u ∷ row) xs at j v d =
    ap (λ (l : List ℕ). sets l (suc at) row) (set_comm xs j at v u (λ e. d 0 (omega arith) (omega arith)))
    ∙ set_swap row (set xs at u) (suc at) j v (λ g l e. d (suc g) (omega arith) (omega arith))

sets_swap : (row row' xs : List ℕ) (at at' : ℕ) →
    ((f g : ℕ) → f < length row → g < length row' → at + f ≡ at' + g → ⊥) →
    sets (sets xs at row) at' row' ≡ sets (sets xs at' row') at row
sets_swap [] row' xs at at' d = refl
sets_swap (v ∷ row) row' xs at at' d =
    sets_swap row row' (set xs at v) (suc at) at' (λ f g l h e. d (suc f) g (omega arith) h (omega arith))
    ∙ ap (λ (l : List ℕ). sets l (suc at) row) (set_swap row' xs at' at v (λ g h e. d 0 g (omega arith) h (omega arith)))

-- So may two rows.
pub row_swap : (w : ℕ) (xs : List ℕ) (r s : ℕ) (row row' : List ℕ) → length row ≤ w → length row' ≤ w → (r ≡ s → ⊥) →
    put_row w (put_row w xs r row) s row' ≡ put_row w (put_row w xs s row') r row
row_swap w xs r s row row' l l' d =
    sets_swap row row' xs (w * r) (w * s) (λ f g h h' e. d (place-one w r f s g (omega arith) (omega arith) e).0)
