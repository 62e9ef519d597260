-- Functions changed at one place.
use Prim.Native.Nat.{ℕ}
use mathlib.Core.Path.{◌≡◌, refl, sym, subst}
use borrow.Author.Tests.{eq-eqb, ne_eqb}
use Rattle.ranges.specs.Tests.{by_equal}
use Rattle.claim.specs.History.{changed}

module _ {A : Type 0} (f : ℕ → A) (i : ℕ) (a : A) where
  pub changed-same : changed f i a i ≡ a
  unfolding changed
  changed-same = rw (eq-eqb i i refl)

  pub changed_other : (j : ℕ) → (j ≡ i → ⊥) → changed f i a j ≡ f j
  unfolding changed
  changed_other j d = rw (ne_eqb j i d)

  -- what holds of the new value at the place and of the old values elsewhere holds everywhere
  pub changed-all : (P : ℕ → A → Type 0) → P i a → ((j : ℕ) → (j ≡ i → ⊥) → P j (f j)) → (j : ℕ) → P j (changed f i a j)
  changed-all P h g j =
      by_equal j i
      (λ e. subst (λ (x : ℕ). P x (changed f i a x)) (sym e) (rw changed-same h))
      (λ d. rw (changed_other j d) (g j d))

-- the same for two functions changed at one place
pub changed-both : {A B : Type 0} (P : ℕ → A → B → Type 0) (f : ℕ → A) (g : ℕ → B) (i : ℕ) (a : A) (b : B) → P i a b → ((j : ℕ) → (j ≡ i → ⊥) → P j (f j) (g j)) → (j : ℕ) → P j (changed f i a j) (changed g i b j)
changed-both P f g i a b h k j =
    by_equal j i
    (λ e. subst (λ (x : ℕ). P x (changed f i a x) (changed g i b x)) (sym e) (rw (changed-same f i a, changed-same g i b) h))
    (λ d. rw (changed_other f i a j d, changed_other g i b j d) (k j d))

pub changed-three : {A B C : Type 0} (P : ℕ → A → B → C → Type 0) (f : ℕ → A) (g : ℕ → B) (h : ℕ → C) (i : ℕ) (a : A) (b : B) (c : C) → P i a b c → ((j : ℕ) → (j ≡ i → ⊥) → P j (f j) (g j) (h j)) → (j : ℕ) → P j (changed f i a j) (changed g i b j) (changed h i c j)
changed-three P f g h i a b c new old j =
    by_equal j i
    (λ e. subst (λ (x : ℕ). P x (changed f i a x) (changed g i b x) (changed h i c x)) (sym e) (rw (changed-same f i a, changed-same g i b, changed-same h i c) new))
    (λ d. rw (changed_other f i a j d, changed_other g i b j d, changed_other h i c j d) (old j d))
