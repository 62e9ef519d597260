-- A loop as a definition: what a state is after the turns 0, 1, .., n - 1, the last turn outermost.
use Prim.Native.Nat.{ℕ, zero, suc, ◌+◌, ◌<◌}
use Rattle.std.specs.Prelude.{◌≡◌}
use Rattle.std.proofs.Math.Path.{refl}
use Rattle.std.proofs.Common.{◌∙◌, arith, add-one}

unfoldable pub turns : {A : Type 0} → (ℕ → A → A) → ℕ → A → A
turns f zero x = x
turns f (suc n) x = f n (turns f n x)

module _ {A : Type 0} (f : ℕ → A → A) where
  pub turns-none : (x : A) → x ≡ turns f 0 x
  unfolding turns
  turns-none x = refl

  -- one turn more: the law of every loop
  pub turns_more : (n : ℕ) (x : A) {y z : A} → y ≡ turns f n x → z ≡ f n y → z ≡ turns f (n + 1) x
  unfolding turns
  turns_more n x d e = e ∙ rw (add-one n, d)

  -- what each turn keeps, all turns keep
  pub turns_keep : (P : A → Type 0) → ((i : ℕ) (y : A) → P y → P (f i y)) → (n : ℕ) (x : A) → P x → P (turns f n x)
  unfolding turns
  turns_keep P k zero x h = h
  turns_keep P k (suc n) x h = k n _ (turns_keep P k n x h)

  -- the same where a turn keeps it only below the loop's end
  pub turns_keep-below : (P : A → Type 0) (n : ℕ) → ((i : ℕ) → i < n → (y : A) → P y → P (f i y)) → (x : A) → P x → P (turns f n x)
  unfolding turns
  turns_keep-below P zero k x h = h
  turns_keep-below P (suc n) k x h = k n (omega arith) _ (turns_keep-below P n (λ i l. k i (omega arith)) x h)
