-- The covered functions, as a walk calls them: what each is handed, and that it answers what its contract says.
-- Assumes `Logic`.
use mathlib.Core.Path.{refl, ap}
use Prim.Native.Nat.{ℕ, ◌≤◌, ◌<◌, ◌*◌, ◌^◌}
use native.Mathlib.Omega.{arith}
use mathlib.Core.List.{List, [], ◌∷◌}
use seplogic.Ra.Ura.{Ura}
use mir.Syntax.{Ty, named, imm, w64, ty_ref}
use mir.Val.{Val, vbool, vint}
use base.Logic.{SProp, id⊢}
use base.Fml.{ftrue}
use prog.Memory.{Memory}
use prog.Routine.{Routine}
use types.Logic.{Logic}
use contract.Monad.{Fun}
use types.Kit.{‵, ◌$◌, ◌∵◌, !, qed, move, join, frame, done}
use denote.Laws.{Is}
use denote.Memory.{pointee, mem}
use denote.Plain.{uint_Makes}
use denote.Builtin.{usize, bool}
use denote.Slice.{slice_ty}
use denote.Steps.{only, nothing}
use denote.Struct.Laws as LL
use denote.Triple.Clauses.{Lasts, lasts}
use denote.Triple.Spec.{triple_of}
use denote.Triple.Statement.{Contract}
use Rattle.keys.specs.declared.Key.{Key}
use Rattle.keys.specs.contracts.Key as K
use Rattle.keys.proofs.Key.TheLaws as K'
use Rattle.version_records.specs.declared.Version.{Version}
use Rattle.version_records.specs.Table.{readable, bears}
use Rattle.versions.proofs.Steps.{Answers, has}
use Rattle.version_records.specs.contracts.Version as T
use Rattle.version_records.proofs.Version.TheLaws as T'
use Rattle.version_decisions.specs.contracts.readable_of as Readable-of
use Rattle.version_decisions.specs.contracts.bears_key as bears-key

-- the machine's values of a version, and the type of a slice of versions
abbrev pub vals : Version → List Val
vals = LL.vals T.the_type T'.the_laws

abbrev pub slice : Ty
slice = slice_ty (ty_ref (named 0) imm (pointee (T.the_row).written))

-- a place below what can be read is in the table
pub within : (i n m : ℕ) → i < n → n ≤ m → i < m
within i n m l h = omega arith

-- the bytes of a version, as its type says
abbrev pub version_size : ℕ
version_size = (mem T.the_row).size

-- a version's place, in bytes, fits a usize, since the whole slice has room
pub place-fits : (n i : ℕ) → n * version_size < 2 ^ 63 → i < n → i * version_size < 2 ^ 64
place-fits n i r l = omega arith

module _ {M : Type 1} {𝓤 : Ura M} (𝓛 : Logic 𝓤) (mem : Memory → SProp 𝓤) (run : Routine → Fun 𝓤) where
  abbrev pub Readable : Contract 𝓤
  Readable = triple_of 𝓛 Readable-of.signature (Readable-of.spec 𝓛 mem run)

  abbrev pub Bears : Contract 𝓤
  Bears = triple_of 𝓛 bears-key.signature (bears-key.spec 𝓛 mem run)

  module _ (held places : ℕ) (gh : held < 2 ^ 64) (gp : places < 2 ^ 64) where
    pub readable-answers : Answers 𝓛 (‵ ftrue) (‵ ftrue) Readable ((tt, tt, tt, (held, (places, tt)), (vint w64 held ∷ [], (vint w64 places ∷ [], tt))), tt) usize (readable held places) (vint w64 (readable held places))
    readable-answers = record {
      asks = qed 𝓛 (‵ ftrue ∷ []) ∵ nothing ! $ has ! usize (uint_Makes 𝓛 w64) places _ (refl, gp) $ has ! usize (uint_Makes 𝓛 w64) held _ (refl, gh) $ move ! (1 ∷ 0 ∷ []) $ join ! $ frame ! $ done !;
      Ends = Lasts Readable-of.ended tt (held, (places, tt));
      ends = lasts Readable-of.ended tt (held, (places, tt));
      gives = λ u. id⊢ 𝓤 _;
      tells = λ u is. ap only is.0;
    }

  module _ (version : Version) (gv : Is T.the_row version (vals version)) where
    pub bears-answers : (key : Key) → Is K.the_row key (LL.vals K.the_type K'.the_laws key)
        → Answers 𝓛 (‵ ftrue) (‵ ftrue) Bears ((tt, tt, tt, (version, (key, tt)), (vals version, (LL.vals K.the_type K'.the_laws key, tt))), tt) bool (bears version key) (vbool (bears version key))
    bears-answers key gk = record {
      asks = qed 𝓛 (‵ ftrue ∷ []) ∵ nothing ! $ has ! K.the_row (LL.makes K.the_type K'.the_plain 𝓛) key _ gk $ has ! T.the_row (LL.makes T.the_type T'.the_plain 𝓛) version _ gv $ move ! (1 ∷ 0 ∷ []) $ join ! $ frame ! $ done !;
      Ends = Lasts bears-key.ended tt (version, (key, tt));
      ends = lasts bears-key.ended tt (version, (key, tt));
      gives = λ u. id⊢ 𝓤 _;
      tells = λ u is. ap only is;
    }
