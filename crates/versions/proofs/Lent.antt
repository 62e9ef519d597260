-- A local array that is lent as a slice: what a walk of the lender needs beside the logic's own rules of lending. It says nothing of this crate.
--     array_lies       the array's cell and what the array owns  ⊢  its elements, side by side, which is what `lends_slice` takes
--     array-room       its elements, side by side  ⊢  the room of the array's local, which `free1` takes
-- Assumes `Logic`.
use mathlib.Core.Path.{◌≡◌, refl}
use Prim.Native.Nat.{ℕ}
use mathlib.Core.List.{List, [], ◌∷◌}
use lib.ListN.{length}
use seplogic.Ra.Ura.{Ura}
use base.Fraction.{full_share}
use mir.Syntax.{Ty, Width, ty_array, int_big}
use mir.Val.{Val, vint, Fits}
use base.Logic.{ent, sep, via, guard_i}
use base.Fml.{fsep, fat, froom}
use prog.Wp.{Env}
use types.Logic.{Logic, sem}
use types.Kit.{Item, ‵, ◌$◌, ◌∵◌, !, qed, move, drop, use1, rewrite, fsplit, fjoin, fpick, fpack, feq_i, done}
use types.Run.{Opd}
use types.SemTy.{cells}
use types.Share.{arr_parts}
use denote.RattleType.{RattleType}
use denote.Laws.{Is, Tells, shows}
use denote.Memory.{cell_at, lone, part_at, mem, shares, part_of}
use denote.Array.{Array, array_vals, Array-Tells}
use denote.ArrayMemory.{Single, Array-apart, Array-whole}
use denote.Index.{row, whole_in}
use denote.Steps.{peeks, only}

module _ {M : Type 1} {𝓤 : Ura M} (𝓛 : Logic 𝓤) (R : RattleType) (n b : ℕ) (xs : List R.Denot) where
  open 𝓛 use {H}

  abbrev τ : Ty
  τ = ty_array (lone R.mir) n

  pub array_lies : Single R.mir → (u : Val) → ent 𝓤 (sep 𝓤 (H.at full_share τ b 0 u) (sem 𝓛 ((Array R n).own_val xs (u ∷ [])))) (sem 𝓛 (cells (mem R) xs b 0))
  unfolding part_of
  array_lies one u =
      qed 𝓛 (‵ (fat full_share τ b 0 u) ∷ ‵ ((Array R n).own_val xs (u ∷ [])) ∷ []) ∵
      use1 𝓛 (‵ (cell_at full_share (τ ∷ []) (u ∷ []) b 0)) (𝓛.laws.at_raw full_share τ b 0 u) $ fjoin ! $
      fpack ! (List Val) (λ vs. fsep (cell_at full_share (τ ∷ []) vs b 0) ((Array R n).own_val xs vs)) (u ∷ []) $
      use1 𝓛 (‵ ((arr_parts (shares R) n).part full_share xs b 0)) (Array-apart 𝓛 R full_share one n xs b 0) $ fsplit ! $ drop ! $
      use1 𝓛 (‵ (cells (mem R) xs b 0)) (whole_in 𝓛 R xs b 0) $ done !

  pub array_room : (vals : R.Denot → List Val) → Tells R (Is R) vals → length xs ≡ n → ent 𝓤 (sem 𝓛 (row R full_share xs b 0)) (H.room τ b 0)
  unfolding part_of
  array_room vals tl l =
      qed 𝓛 (‵ (row R full_share xs b 0) ∷ []) ∵ feq_i ! ℕ (length xs) n l $ fjoin ! $
      use1 𝓛 (‵ (part_at (Array R n) full_share xs b 0)) (Array-whole 𝓛 R full_share n xs b 0) $ fpick ! (λ vs. fsplit ! $ move ! (1 ∷ []) $
      peeks ! (Array R n) (Is (Array R n)) (shows 𝓛 (Array R n)) xs vs (λ p. drop ! $
      rewrite ! 0 (λ (us : List Val). ‵ (cell_at full_share (τ ∷ []) us b 0)) (Array-Tells R vals tl n xs vs p) refl $
      use1 𝓛 (‵ (fat full_share τ b 0 (only (array_vals vals xs)))) (𝓛.laws.raw_at full_share τ b 0 (only (array_vals vals xs))) $
      use1 𝓛 (‵ (froom τ b 0)) (𝓛.laws.at_room τ b 0 (only (array_vals vals xs))) $ done !))

-- a constant that MIR writes as `int_big`, as 4096 in the count of an array that is lent: `types.Run`'s `lit` is for `int` alone
module _ {M : Type 1} {𝓤 : Ura M} {𝓛 : Logic 𝓤} {K : Type 0} {Γ : List (Item 𝓤)} {E : Env 𝓤 𝓛.H} where
  pub big_lit : K → {w : Width} {n : ℕ} → Fits w n → Opd K 𝓛 Γ E (int_big w n) (vint w n)
  big_lit t {w} {n} z = record { go = λ Kt h. via 𝓤 (Kt (vint w n)) h (guard_i 𝓤 (Fits w n) (Kt (vint w n)) z) }
