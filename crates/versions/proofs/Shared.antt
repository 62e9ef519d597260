-- The functions over a `&[Version]`, as a walk calls them: what the slice owns and the lifetime's token are lent, and the token comes back. What a slice owns can be had twice, so a
-- walk that needs it again keeps one.
-- Assumes `Logic`.
use mathlib.Core.Path.{refl, ap}
use Prim.Native.Nat.{ℕ, ◌<◌, ◌^◌}
use mathlib.Core.List.{List, [], ◌∷◌}
use lib.ListN.{length}
use seplogic.Ra.Ura.{Ura}
use mir.Syntax.{named, w64}
use mir.Val.{Val, vint}
use base.Logic.{SProp, id⊢}
use base.Fml.{Lft, GName, Share, Fml, ftrue, flft}
use prog.Memory.{Memory}
use prog.Routine.{Routine}
use types.Logic.{Logic}
use contract.Monad.{Fun}
use types.Kit.{Item, ‵, ◌⊛◌, ◌$◌, ◌∵◌, !, qed, move, split, join, fjoin, frame, done}
use denote.Laws.{Is}
use denote.Plain.{uint_Makes}
use denote.Builtin.{usize}
use denote.Ref.{Bor}
use denote.Slice.{slice_val, ShrSlice}
use denote.Steps.{only, nothing}
use denote.Struct.Laws as LL
use denote.Triple.Clauses.{Lasts, lasts}
use denote.Triple.Spec.{triple_of}
use denote.Triple.Statement.{Contract}
use Rattle.keys.specs.declared.Key.{Key}
use Rattle.keys.specs.contracts.Key as K
use Rattle.keys.proofs.Key.TheLaws as K'
use Rattle.version_records.specs.declared.Version.{Version}
use Rattle.version_records.specs.Table.{readable, first_bearing}
use Rattle.versions.proofs.Steps.{Answers, has}
use Rattle.version_records.specs.contracts.Version as T
use Rattle.versions.specs.contracts.held_now as held-now
use Rattle.versions.specs.contracts.find as find

module _ {M : Type 1} {𝓤 : Ura M} (𝓛 : Logic 𝓤) (mem : Memory → SProp 𝓤) (run : Routine → Fun 𝓤) where
  abbrev pub Now : Contract 𝓤
  Now = triple_of 𝓛 held-now.signature (held-now.spec 𝓛 mem run)

  abbrev pub Find : Contract 𝓤
  Find = triple_of 𝓛 find.signature (find.spec 𝓛 mem run)

  module _ (κ : Lft) (q : Share) (b o : ℕ) (γ : GName) (ys : List Version) (held : ℕ) (gh : held < 2 ^ 64) where
    abbrev pub x : Bor (List Version)
    x = record { ref_ptr = (b, o); now = ys }

    abbrev s : Val
    s = slice_val (b, o) (length ys)

    abbrev Own : Fml
    Own = (ShrSlice (named 0) κ T.the_row).own_val x (s ∷ [])

    abbrev token : Item 𝓤
    token = ‵ (flft κ q) ⊛ ‵ ftrue

    pub now-answers : Answers 𝓛 (token ⊛ ‵ Own) token Now (((κ, tt), (q, tt), tt, (x, (held, tt)), (s ∷ [], (vint w64 held ∷ [], tt))), tt) usize (readable held (length ys)) (vint w64 (readable held (length ys)))
    now-answers = record {
      asks = qed 𝓛 ((token ⊛ ‵ Own) ∷ []) ∵ split ! $ nothing ! $ has ! usize (uint_Makes 𝓛 w64) held _ (refl, gh) $ move ! (2 ∷ 0 ∷ []) $ fjoin ! $ move ! (1 ∷ 0 ∷ []) $ join ! $ frame ! $ done !;
      Ends = Lasts held-now.ended (κ, tt) (x, (held, tt));
      ends = lasts held-now.ended (κ, tt) (x, (held, tt));
      gives = λ u. id⊢ 𝓤 _;
      tells = λ u is. ap only is.0;
    }

    module _ (k : Key) (gk : Is K.the_row k (LL.vals K.the_type K'.the_laws k)) where
      abbrev key-mach : Val
      key-mach = LL.val K.the_type K'.the_laws k

      pub find-answers : Answers 𝓛 (token ⊛ ‵ Own) token Find (((κ, tt), (q, tt), tt, (x, (held, (k, tt))), (s ∷ [], (vint w64 held ∷ [], (key-mach ∷ [], tt)))), tt) usize (first_bearing ys held k) (vint w64 (first_bearing ys held k))
      find-answers = record {
        asks = qed 𝓛 ((token ⊛ ‵ Own) ∷ []) ∵ split ! $ nothing ! $ has ! K.the_row (LL.makes K.the_type K'.the_plain 𝓛) k _ gk $ has ! usize (uint_Makes 𝓛 w64) held _ (refl, gh) $ move ! (2 ∷ 0 ∷ []) $ fjoin ! $ move ! (1 ∷ 0 ∷ []) $ join ! $ frame ! $ done !;
        Ends = Lasts find.ended (κ, tt) (x, (held, (k, tt)));
        ends = lasts find.ended (κ, tt) (x, (held, (k, tt)));
        gives = λ u. id⊢ 𝓤 _;
        tells = λ u is. ap only is.0;
      }
