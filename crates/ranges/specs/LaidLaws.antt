-- Laws of lists given place by place, and what a loop has laid so far.
use Prim.Native.Nat.{ℕ, zero, suc, ◌+◌, ◌≤◌, ◌<◌}
use Rattle.std.specs.Prelude.{◌≡◌, length, take, replicate}
use Rattle.std.proofs.Math.Path.{refl, sym, ap}
use Rattle.std.proofs.Common.{ap₂, ◌∙◌, add-one, length-drop, length-set, drop-cons, take_at, take-suc}
use mathlib.Core.List.{List, [], ◌∷◌, ◌++◌, append-nil}
use native.Mathlib.Omega.{arith}
use Rattle.std.proofs.Math.ListN.{get_or, drop, set, length-append, get_or-append}
use Rattle.std.proofs.lemmas.List.{replicate-append-replicate}
use Rattle.std.proofs.Math.Seq.{get_or-append_seam, set_at, drop-length, append_snoc, take-length}
use Rattle.ranges.specs.Tests.{by_equal}
use Rattle.ranges.specs.Laid.{built, laid}

module _ (f : ℕ → ℕ) where
  pub built-length : (n : ℕ) → length (built f n) ≡ n
  unfolding built
  built-length zero = refl
  built-length (suc n) = length-append (built f n) (f n ∷ []) ∙ omega (arith, built-length n)

  pub built_at : (n i : ℕ) → i < n → get_or (built f n) i 0 ≡ f i
  unfolding built
  built_at zero i h = let z : ⊥ = omega arith in absurd z
  built_at (suc n) i h =
      by_equal i n
      (λ e. ap (λ (k : ℕ). get_or (built f n ++ (f n ∷ [])) k 0) (e ∙ sym (built-length n)) ∙ get_or-append_seam (built f n) (f n) [] 0 ∙ ap f (sym e))
      (λ d. get_or-append (built f n) (f n ∷ []) 0 i (omega (arith, built-length n)) ∙ built_at n i (omega arith))

  pub laid_none : (row : List ℕ) → row ≡ laid f 0 row
  unfolding built
  laid_none row = refl

  pub laid-length : (n : ℕ) (row : List ℕ) → n ≤ length row → length (laid f n row) ≡ length row
  laid-length n row h = length-append (built f n) (drop n row) ∙ omega (arith, built-length n, length-drop n row)

  pub laid_at : (n : ℕ) (row : List ℕ) (i : ℕ) → i < n → get_or (laid f n row) i 0 ≡ f i
  laid_at n row i h = get_or-append (built f n) (drop n row) 0 i (omega (arith, built-length n)) ∙ built_at n i h

  -- one place more, as a loop stores it
  laid_more : (n : ℕ) (row : List ℕ) {v : ℕ} → n < length row → v ≡ f n → set (laid f n row) n v ≡ laid f (n + 1) row
  unfolding built
  laid_more n row {v} h e =
      ap (λ (l : List ℕ). set (built f n ++ l) n v) (drop-cons row n 0 h)
      ∙ set_at (built f n) (get_or row n 0) (drop (suc n) row) v n (built-length n)
      ∙ ap (λ (w : ℕ). built f n ++ (w ∷ drop (suc n) row)) e
      ∙ sym (append_snoc (built f n) (f n) (drop (suc n) row))
      ∙ ap (λ (k : ℕ). built f k ++ drop k row) (sym (add-one n))

  -- the front of a row that was laid, and a row that was laid to its end
  pub laid_front : (n : ℕ) (row : List ℕ) {after : List ℕ} → after ≡ laid f n row → take n after ≡ built f n
  laid_front n row e = ap (take n) e ∙ take_at (built f n) (drop n row) n (built-length n)

  pub laid-whole : (row : List ℕ) → laid f (length row) row ≡ built f (length row)
  laid-whole row = ap (λ (l : List ℕ). built f (length row) ++ l) (drop-length row) ∙ append-nil (built f (length row))

-- two lists that are given by the same
pub built-same : (f g : ℕ → ℕ) (n : ℕ) → ((i : ℕ) → i < n → f i ≡ g i) → built f n ≡ built g n
unfolding built
built-same f g zero h = refl
built-same f g (suc n) h = ap₂ (λ (l : List ℕ) (x : ℕ). l ++ (x ∷ [])) (built-same f g n (λ i l. h i (omega arith))) (h n (omega arith))

-- a list's own first places
pub built-take : (l : List ℕ) (n : ℕ) → n ≤ length l → built (λ i. get_or l i 0) n ≡ take n l
unfolding built
built-take l zero h = refl
built-take l (suc n) h = ap (λ (k : List ℕ). k ++ (get_or l n 0 ∷ [])) (built-take l n (omega arith)) ∙ sym (take-suc l n 0 (omega arith))

-- a list laid over a row
pub laid_list : (l row : List ℕ) → laid (λ i. get_or l i 0) (length l) row ≡ l ++ drop (length l) row
laid_list l row = ap (λ (k : List ℕ). k ++ drop (length l) row) (built-take l (length l) (omega arith) ∙ take-length l)

-- the same at each place
pub built_constant : (v n : ℕ) → built (λ i. v) n ≡ replicate n v
unfolding built
built_constant v zero = refl
built_constant v (suc n) = ap (λ (l : List ℕ). l ++ (v ∷ [])) (built_constant v n) ∙ replicate-append-replicate n 1 v ∙ ap (λ (k : ℕ). replicate k v) (add-one n)

-- a list from its first place on
pub built-first : (f : ℕ → ℕ) (n : ℕ) → built f (suc n) ≡ f 0 ∷ built (λ i. f (suc i)) n
unfolding built
built-first f zero = refl
built-first f (suc n) = ap (λ (l : List ℕ). l ++ (f (suc n) ∷ [])) (built-first f n)

-- A loop that stores f at the first n places of a row, one by one, as the code meets it: i places are done.
pub record Laying (f : ℕ → ℕ) (n : ℕ) (row : List ℕ) (i : ℕ) (now' : List ℕ) : Type 0 where
  pub within : i ≤ n
  pub room : n ≤ length row
  pub kept : length now' ≡ length row
  pub stored : now' ≡ laid f i row

pub laying-none : (f : ℕ → ℕ) (n : ℕ) (row : List ℕ) → n ≤ length row → Laying f n row 0 row
laying-none f n row h = record { within = omega arith; room = h; kept = refl; stored = laid_none f row }

module _ {f : ℕ → ℕ} {n : ℕ} {row : List ℕ} {i : ℕ} {now' : List ℕ} (l : Laying f n row i now') where
  pub laying-more : {v : ℕ} → i < n → v ≡ f i → Laying f n row (i + 1) (set now' i v)
  laying-more {v} h e =
      record {
        within = omega arith;
        room = l.room;
        kept = length-set now' i v ∙ l.kept;
        stored = ap (λ (r : List ℕ). set r i v) l.stored ∙ laid_more f i row (omega arith) e;
      }

  pub laying-all : n ≤ i → now' ≡ laid f n row
  laying-all h = let e : i ≡ n = omega arith in l.stored ∙ ap (λ (k : ℕ). laid f k row) e
