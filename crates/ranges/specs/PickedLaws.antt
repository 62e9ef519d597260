-- What a loop leaves that takes a turn only for the numbers that pass a test: at each place, once for every table.
use Prim.Native.Nat.{ℕ, zero, suc, ◌≤◌, ◌<◌}
use Rattle.std.specs.Prelude.{◌≡◌, Bool, false, cond, List, set}
use Rattle.std.proofs.Math.Path.{refl}
use Rattle.std.proofs.Common.{◌∙◌}
use Rattle.std.proofs.Math.Bool.{true}
use native.Mathlib.Omega.{arith}
use Rattle.ranges.specs.Tests.{either, by_equal, not-both}
use Rattle.ranges.specs.Turns.{turns}
use Rattle.ranges.specs.Picked.{picked}

-- a turn that `laid_over` takes
abbrev pub lay_word : (ℕ → ℕ) → ℕ → List ℕ → List ℕ
lay_word word i row = set row i (word i)

-- A state is read at a place by `get`. Turn i changes place i alone, to v i, where i is below `size` and the state has room; and it keeps the room.
module _ {A B : Type 0} (get : A → ℕ → B) (put : ℕ → A → A) (v : ℕ → B) (Room : A → Type 0) (size : ℕ)
    (keeps : (i : ℕ) (a : A) → Room a → Room (put i a))
    (same : (i : ℕ) (a : A) → i < size → Room a → get (put i a) i ≡ v i)
    (other : (i j : ℕ) (a : A) → i < size → (j ≡ i → ⊥) → get (put i a) j ≡ get a j)
    (p : ℕ → Bool) (x : A) (room : Room x) where
  pub has_room : (n : ℕ) → Room (turns (picked p put) n x)
  unfolding turns
  has_room zero = room
  has_room (suc n) = either Room (p n) (keeps n _ (has_room n)) (has_room n)

  -- a turn leaves each other place
  turn_other : (b : Bool) (i j : ℕ) (a : A) → i < size → (j ≡ i → ⊥) → get (cond b (put i a) a) j ≡ get a j
  turn_other true i j a h f = other i j a h f
  turn_other false i j a h f = refl

  -- a place that the loop has not reached is as before
  pub not_reached : (n j : ℕ) → n ≤ size → n ≤ j → get (turns (picked p put) n x) j ≡ get x j
  unfolding turns
  not_reached zero j b h = refl
  not_reached (suc n) j b h = turn_other (p n) n j _ (omega arith) (λ e. omega arith) ∙ not_reached n j (omega arith) (omega arith)

  turn-passed : (b : Bool) (i j : ℕ) (a : A) → i < size → p i ≡ b → p j ≡ false → get (cond b (put i a) a) j ≡ get a j
  turn-passed true i j a h d e = other i j a h (λ q. not-both d (rw q at e))
  turn-passed false i j a h d e = refl

  -- a place that fails the test is as before
  pub not-picked : (n j : ℕ) → n ≤ size → p j ≡ false → get (turns (picked p put) n x) j ≡ get x j
  unfolding turns
  not-picked zero j b e = refl
  not-picked (suc n) j b e = turn-passed (p n) n j _ (omega arith) refl e ∙ not-picked n j (omega arith) e

  -- a place that passes the test and that the loop has reached holds its new value
  pub is-picked : (n j : ℕ) → n ≤ size → j < n → p j ≡ true → get (turns (picked p put) n x) j ≡ v j
  unfolding turns
  is-picked zero j b h e = let z : ⊥ = omega arith in absurd z
  is-picked (suc n) j b h e =
      by_equal j n
      (λ d. let on : p n ≡ true = rw d at e in rw (d, on) (same n _ (omega arith) (has_room n)))
      (λ f. turn_other (p n) n j _ (omega arith) f ∙ is-picked n j (omega arith) (omega arith) e)
