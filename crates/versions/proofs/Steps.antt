-- The rules by which a walk of code in the program logic goes through a call, each said once.
--     Answers          what is known of a call: what is lent for it, what comes back of that, and what it answers
--     calls_lent       a function is called that answers what its contract says and stores nothing: what is lent for the call stands at the head, and what comes back of it
--     calls_plain      the same where nothing is lent: the parameters are plain values
--     has              a plain value is put before what else a callee is handed: what it owns is had for nothing
--     holds, fails     how a test came out, as an arm of a branch is told
--     spare, spent     at the end a local is freed: one that was never written, and one that holds a value
-- Assumes `Logic`.
use mathlib.Core.Path.{◌≡◌, refl, sym, subst}
use Prim.Native.Nat.{ℕ, zero}
use mathlib.Core.Bool.{Bool, true, false, not}
use mathlib.Core.List.{List, [], ◌∷◌}
use lib.Dec.{T as Holds}
use seplogic.Ra.Ura.{Ura}
use base.Fraction.{full_share}
use mir.Syntax.{Ty, Callee, Place, Opd as Operand, Body, seq, call}
use mir.Val.{Val}
use base.Logic.{ent, sep, via, mono_l, mono_r}
use base.Fml.{Fml, ftrue, fsep, fat, froom, fdies}
use prog.Wp.{Env, Calls, Loops}
use types.Logic.{Logic}
use contract.Monad.{fact}
use sound.WpLaws.{FmC}
use types.Kit.{Item, ‵, raw, some, later, ◌⊛◌, mean, ⋆, nth, del, pull, push, Goal, Post, runs, lands, frees, Seq, Step, step, ◌$◌, by, move, drop, use1, split, pick, fjoin, await}
use types.Run.{Opds, free1}
use denote.RattleType.{RattleType}
use denote.Laws.{Is, Makes, shows}
use denote.Steps.{owned, peeks, heard, nothing}
use denote.Triple.Statement.{Contract, Triple}
use denote.Triple.Call.{calls_at}

pub holds : (t : Bool) → Holds t → t ≡ true
holds true _ = refl
holds false a = absurd a

pub fails : (t : Bool) → Holds (not t) → t ≡ false
fails true a = absurd a
fails false _ = refl

-- What is known of a call at a ghost value x: what is lent for it, what comes back of that, and that it answers r, which is v in the machine.
-- `ends` is what the contract says of last values: nothing, of a callee that stores nothing.
pub record Answers {M : Type 1} {𝓤 : Ura M} (𝓛 : Logic 𝓤) (lent back : Item 𝓤) (c : Contract 𝓤) (x : c.Ghost) (R : RattleType) (r : R.Denot) (v : Val) : Type 2 where
  pub asks : ent 𝓤 (mean 𝓛 lent) (c.pre x)
  pub Ends : Type 0
  pub ends : Ends → Fml
  pub gives : (u : Val) → ent 𝓤 (c.post x u) (mean 𝓛 (later (some (λ (s : R.Denot). (back ⊛ ‵ (R.own_val s (u ∷ []))) ⊛ some (λ (e : Ends). ‵ (ends e) ⊛ raw (fact 𝓤 (s ≡ r)))))))
  pub tells : (u : Val) → Is R r (u ∷ []) → u ≡ v

-- the two entries of a local are taken out of a context
taken : {M : Type 1} {𝓤 : Ura M} (𝓛 : Logic 𝓤) (Γ : List (Item 𝓤)) (n : ℕ) (i j : Item 𝓤) → nth 𝓛 n Γ ≡ i → nth 𝓛 n (del 𝓛 n Γ) ≡ j
    → ent 𝓤 (⋆ 𝓛 Γ) (sep 𝓤 (mean 𝓛 i) (⋆ 𝓛 (j ∷ del 𝓛 n (del 𝓛 n Γ))))
taken {𝓤 = 𝓤} 𝓛 Γ n i j e d =
    via 𝓤 (sep 𝓤 (mean 𝓛 i) (⋆ 𝓛 (del 𝓛 n Γ)))
    (subst (λ (l : Item 𝓤). ent 𝓤 (⋆ 𝓛 Γ) (sep 𝓤 (mean 𝓛 l) (⋆ 𝓛 (del 𝓛 n Γ)))) e (pull 𝓛 n Γ))
    (mono_r 𝓤 (mean 𝓛 i)
    (via 𝓤 (sep 𝓤 (mean 𝓛 j) (⋆ 𝓛 (del 𝓛 n (del 𝓛 n Γ))))
    (subst (λ (l : Item 𝓤). ent 𝓤 (⋆ 𝓛 (del 𝓛 n Γ)) (sep 𝓤 (mean 𝓛 l) (⋆ 𝓛 (del 𝓛 n (del 𝓛 n Γ))))) d (pull 𝓛 n (del 𝓛 n Γ)))
    (push 𝓛 j (del 𝓛 n (del 𝓛 n Γ)))))

module _ {M : Type 1} {𝓤 : Ura M} {𝓛 : Logic 𝓤} {K : Type 0} {Γ : List (Item 𝓤)} where
  open 𝓛 use {H}

  module _ {E : Env 𝓤 H} {C : Calls 𝓤 H} {Λ : Loops 𝓤 H} {q : Post 𝓤 H} {f : Callee} {xs : List Operand} {d : Place} {rest : Body} where
    pub calls_lent : K → FmC 𝓤 H 𝓛.laws C → {c : Contract 𝓤} → Triple 𝓤 (C f) c → {lent back : Item 𝓤} {x : c.Ghost} {R : RattleType} {r : R.Denot} {v : Val} → Answers 𝓛 lent back c x R r v
        → Opds K 𝓛 (raw (c.pre x) ∷ Γ) E xs (c.args x) → (Is R r (v ∷ []) → Seq K 𝓛 (back ∷ Γ) (lands C Λ E d v rest q))
        → Seq K 𝓛 (lent ∷ Γ) (runs C Λ E (seq (call f xs d) rest) q)
    calls_lent t fm {c} known {lent} {back} {x} {R} {r} {v} a os k =
        use1 𝓛 (raw (c.pre x)) a.asks $ calls_at t fm c known x os (λ u.
        use1 𝓛 (later (some (λ (s : R.Denot). (back ⊛ ‵ (R.own_val s (u ∷ []))) ⊛ some (λ (e : a.Ends). ‵ (a.ends e) ⊛ raw (fact 𝓤 (s ≡ r)))))) (a.gives u) $ await t tt $ pick t (λ s. split t $ move t (1 ∷ []) $
        pick t (λ _. split t $ drop t $ heard t (s ≡ r) (λ e. split t $ move t (1 ∷ []) $ peeks t R (Is R) (shows 𝓛 R) s (u ∷ []) (λ is. drop t $
        let is' = subst (λ (z : R.Denot). Is R z (u ∷ [])) e is in let p = a.tells u is' in
        subst (λ (w : Val). Seq K 𝓛 (back ∷ Γ) (lands C Λ E d w rest q)) (sym p) (k (subst (λ (w : Val). Is R r (w ∷ [])) p is')))))))

    pub calls_plain : K → FmC 𝓤 H 𝓛.laws C → {c : Contract 𝓤} → Triple 𝓤 (C f) c → {x : c.Ghost} {R : RattleType} {r : R.Denot} {v : Val} → Answers 𝓛 (‵ ftrue) (‵ ftrue) c x R r v
        → Opds K 𝓛 (raw (c.pre x) ∷ Γ) E xs (c.args x) → (Is R r (v ∷ []) → Seq K 𝓛 Γ (lands C Λ E d v rest q))
        → Seq K 𝓛 Γ (runs C Λ E (seq (call f xs d) rest) q)
    calls_plain t fm known a os k = nothing t $ calls_lent t fm known a os (λ is. drop t $ k is)

  pub has : K → (R : RattleType) → Makes 𝓛 R (Is R) → (x : R.Denot) (vs : List Val) → Is R x vs → {P : Fml} {G : Goal 𝓤 H} → Step K 𝓛 (‵ (fsep (R.own_val x vs) P) ∷ Γ) G (‵ P ∷ Γ) G
  has t R makes x vs is = step (λ s. owned t R (Is R) makes x vs is $ fjoin t $ s)

  -- a local is freed, whose cell and the right to free it stand at n and behind it
  pub spare : K → (n : ℕ) {τ : Ty} {b : ℕ} {E : Env 𝓤 H} {g : Goal 𝓤 H} → nth 𝓛 n Γ ≡ ‵ (froom τ b zero) → nth 𝓛 n (del 𝓛 n Γ) ≡ ‵ (fdies τ b)
      → Step K 𝓛 (del 𝓛 n (del 𝓛 n Γ)) (frees E g) Γ (frees ((τ, b) ∷ E) g)
  spare t n {τ} {b} e d = step (λ s. by t (via 𝓤 (⋆ 𝓛 (‵ (froom τ b zero) ∷ ‵ (fdies τ b) ∷ del 𝓛 n (del 𝓛 n Γ))) (taken 𝓛 Γ n _ _ e d) (free1 t $ s).prf))

  pub spent : K → (n : ℕ) {τ : Ty} {b : ℕ} {v : Val} {E : Env 𝓤 H} {g : Goal 𝓤 H} → nth 𝓛 n Γ ≡ ‵ (fat full_share τ b zero v) → nth 𝓛 n (del 𝓛 n Γ) ≡ ‵ (fdies τ b)
      → Step K 𝓛 (del 𝓛 n (del 𝓛 n Γ)) (frees E g) Γ (frees ((τ, b) ∷ E) g)
  spent t n {τ} {b} {v} e d = step (λ s. by t
      (via 𝓤 (sep 𝓤 (H.at full_share τ b zero v) (⋆ 𝓛 (‵ (fdies τ b) ∷ del 𝓛 n (del 𝓛 n Γ)))) (taken 𝓛 Γ n _ _ e d)
      (via 𝓤 (⋆ 𝓛 (‵ (froom τ b zero) ∷ ‵ (fdies τ b) ∷ del 𝓛 n (del 𝓛 n Γ))) (mono_l 𝓤 (⋆ 𝓛 (‵ (fdies τ b) ∷ del 𝓛 n (del 𝓛 n Γ))) (𝓛.laws.at_room τ b zero v)) (free1 t $ s).prf)))
