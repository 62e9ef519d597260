-- Laws of the step that a line names, one for each way that the reader goes.
use Rattle.std.specs.Prelude.{ℕ, suc, ◌-◌, ◌≤◌, ◌<◌, ◌≡◌, refl, true, false, List, [], ◌∷◌, length, take, drop, get_or, eqb, leb}
use Rattle.std.proofs.Common.{ap, sym, ◌∙◌, arith, length-append, length-take, length-drop, length-take-le, take_all, take_at, drop-cons, eq-eqb, ne_eqb, le-leb}
use Rattle.std.proofs.Math.Seq.{take-length}
use Rattle.ranges.specs.Tests.{either, by-test}
use Rattle.schedule.specs.Number.{Numbers}
use Rattle.schedule.specs.Number.{Broken, All}
use Rattle.schedule.specs.declared.Reading.{Reading}
use Rattle.std.proofs.lemmas.Bool.{lt-leb}
use Rattle.schedule.specs.declared.Step.TheVariants.{Open, BeginWrite}
use Rattle.schedule.specs.Numbers.{Read, numbers_of, count_of}
use Rattle.schedule.specs.Steps.{line_most, numbers_most, setpoints_most, badge_most}
use Rattle.schedule.specs.Steps.{Named, unreadable, named_open, named_write, pair_named, named_pair, named, named_by, step_of, reading_of, stored, Names}

-- The numbers of a line, and a place for its setpoints: as many as a line can have.
pub record Fits (numbers setpoints : List ℕ) : Type 0 where
  pub few : length numbers ≤ numbers_most
  pub room : setpoints_most ≤ length setpoints

-- a line that names no step leaves the place as it was
pub names-none : {n : Named} {r : Reading} (held : List ℕ) → n ≡ unreadable → r ≡ reading_of unreadable → Names n held r held
names-none held d e = record { reading = rw d e; place = rw d }

pub open_few : (l : List ℕ) → length l < 3 → named_open l ≡ unreadable
open_few [] h = refl
open_few (a ∷ []) h = refl
open_few (a ∷ b ∷ []) h = refl
open_few (a ∷ b ∷ d ∷ l) h = let z : ⊥ = omega arith in absurd z

pub open_names : (l held : List ℕ) {left : List ℕ} → 3 ≤ length l → left ≡ stored (take (length l - 3) (drop 3 l)) held
    → Names (named_open l) held (record { step = Open (get_or l 0 0) (get_or l 1 0) (get_or l 2 0); setpoints = length l - 3 }) left
open_names [] held h e = let z : ⊥ = omega arith in absurd z
open_names (a ∷ []) held h e = let z : ⊥ = omega arith in absurd z
open_names (a ∷ b ∷ []) held h e = let z : ⊥ = omega arith in absurd z
open_names (a ∷ b ∷ d ∷ l) held h e =
    let n : suc (suc (suc (length l))) - 3 ≡ length l = omega arith in
    record { reading = rw n; place = e ∙ rw (n, take-length) }

pub write_few : (l : List ℕ) → length l < 3 → named_write l ≡ unreadable
write_few [] h = refl
write_few (a ∷ []) h = refl
write_few (a ∷ b ∷ []) h = refl
write_few (a ∷ b ∷ d ∷ l) h = let z : ⊥ = omega arith in absurd z

-- a badge of more than 16 bits
pub write-badge : (l : List ℕ) → badge_most < get_or l 2 0 → named_write l ≡ unreadable
write-badge [] h = refl
write-badge (a ∷ []) h = refl
write-badge (a ∷ b ∷ []) h = refl
write-badge (a ∷ b ∷ d ∷ l) h = rw (lt-leb _ _ h)

pub write_names : (l held : List ℕ) {left : List ℕ} → 3 ≤ length l → get_or l 2 0 ≤ badge_most
    → left ≡ stored (take (length l - 3) (drop 3 l)) held
    → Names (named_write l) held (record { step = BeginWrite (get_or l 0 0) (get_or l 1 0) (get_or l 2 0); setpoints = length l - 3 }) left
write_names [] held h b e = let z : ⊥ = omega arith in absurd z
write_names (a ∷ []) held h b e = let z : ⊥ = omega arith in absurd z
write_names (a ∷ b ∷ []) held h k e = let z : ⊥ = omega arith in absurd z
write_names (a ∷ b ∷ d ∷ l) held h k e =
    let n : suc (suc (suc (length l))) - 3 ≡ length l = omega arith in
    rw (le-leb _ _ k) (record { reading = rw n; place = e ∙ rw (n, take-length) })

pub pair-not : (byte : ℕ) (l : List ℕ) → (length l ≡ 2 → ⊥) → named_pair byte l ≡ unreadable
pair-not byte [] h = refl
pair-not byte (a ∷ []) h = refl
pair-not byte (a ∷ b ∷ []) h = absurd (h refl)
pair-not byte (a ∷ b ∷ d ∷ l) h = refl

pub pair-two : (byte : ℕ) (l : List ℕ) → length l ≡ 2 → named_pair byte l ≡ pair_named byte (get_or l 0 0) (get_or l 1 0)
pair-two byte [] h = let z : ⊥ = omega arith in absurd z
pair-two byte (a ∷ []) h = let z : ⊥ = omega arith in absurd z
pair-two byte (a ∷ b ∷ []) h = refl
pair-two byte (a ∷ b ∷ d ∷ l) h = let z : ⊥ = omega arith in absurd z

-- a step of two numbers has no setpoints
pub pair-alone : (byte a b : ℕ) → (pair_named byte a b).setpoints ≡ []
pair-alone byte a b =
    either (λ (n : Named). n.setpoints ≡ []) (eqb byte 82) refl
    (either (λ (n : Named). n.setpoints ≡ []) (eqb byte 62) refl
    (either (λ (n : Named). n.setpoints ≡ []) (eqb byte 60) refl
    (either (λ (n : Named). n.setpoints ≡ []) (eqb byte 33) refl
    (either (λ (n : Named). n.setpoints ≡ []) (eqb byte 43) refl refl))))

pub pair : (byte : ℕ) (l : List ℕ) → (byte ≡ 79 → ⊥) → (byte ≡ 87 → ⊥) → named byte l ≡ named_pair byte l
pair byte l d e = rw (ne_eqb _ _ d, ne_eqb _ _ e)

module _ (byte : ℕ) (l held : List ℕ) {r : Reading} where
  pub names_open : {left : List ℕ} → byte ≡ 79 → Names (named_open l) held r left → Names (named byte l) held r left
  names_open e n = rw (eq-eqb _ _ e) n

  pub names-write : {left : List ℕ} → (byte ≡ 79 → ⊥) → byte ≡ 87 → Names (named_write l) held r left → Names (named byte l) held r left
  names-write d e n = rw (ne_eqb _ _ d, eq-eqb _ _ e) n

  module _ (d : byte ≡ 79 → ⊥) (e : byte ≡ 87 → ⊥) where
    pub names-pair : length l ≡ 2 → r ≡ reading_of (pair_named byte (get_or l 0 0) (get_or l 1 0)) → Names (named byte l) held r held
    names-pair f is = rw (pair byte l d e ∙ pair-two byte l f) (record { reading = is; place = rw (pair-alone byte (get_or l 0 0) (get_or l 1 0)) })

-- The whole line.
pub step-read : (byte : ℕ) (rest : List ℕ) → length (byte ∷ rest) ≤ line_most → step_of (byte ∷ rest) ≡ named_by byte (numbers_of rest)
unfolding step_of
step-read byte rest h = rw (le-leb _ _ h)

pub line-empty : (line : List ℕ) → length line ≡ 0 → step_of line ≡ unreadable
unfolding step_of
line-empty [] h = refl
line-empty (byte ∷ rest) h = let z : ⊥ = omega arith in absurd z

pub line_long : (line : List ℕ) → line_most < length line → step_of line ≡ unreadable
unfolding step_of
line_long [] h = refl
line_long (byte ∷ rest) h = rw (lt-leb _ _ h)

-- how many setpoints a line has at most
pub few_open : (l : List ℕ) → length l ≤ numbers_most → length (named_open l).setpoints ≤ setpoints_most
few_open [] h = omega arith
few_open (a ∷ []) h = omega arith
few_open (a ∷ b ∷ []) h = omega arith
few_open (a ∷ b ∷ d ∷ l) h = omega arith

pub few-write : (l : List ℕ) → length l ≤ numbers_most → length (named_write l).setpoints ≤ setpoints_most
few-write [] h = omega arith
few-write (a ∷ []) h = omega arith
few-write (a ∷ b ∷ []) h = omega arith
few-write (a ∷ b ∷ d ∷ l) h =
    either (λ (n : Named). length n.setpoints ≤ setpoints_most) (leb d badge_most) (omega arith) (omega arith)

pub few-pair : (byte : ℕ) (l : List ℕ) → length (named_pair byte l).setpoints ≤ setpoints_most
few-pair byte [] = omega arith
few-pair byte (a ∷ []) = omega arith
few-pair byte (a ∷ b ∷ []) = rw (pair-alone byte a b) (omega arith)
few-pair byte (a ∷ b ∷ d ∷ l) = omega arith

-- what the number reader's answer tells
pub count-broken : (read : Read) → Broken ≡ count_of read → read.whole ≡ false
count-broken read e =
    by-test read.whole
    (λ t. let f : Broken ≡ All (length read.numbers) = e ∙ rw t in let z : ◌≡◌ {A = ℕ} 0 1 = cc in let y : ⊥ = omega arith in absurd y)
    (λ t. t)

pub count-all : (read : Read) {n : ℕ} → All n ≡ count_of read → (read.whole ≡ true) × (n ≡ length read.numbers)
count-all read {n} e =
    by-test read.whole
    (λ t. let f : All n ≡ All (length read.numbers) = e ∙ rw t in (t, cc))
    (λ t. let f : All n ≡ Broken = e ∙ rw t in let z : ◌≡◌ {A = ℕ} 0 1 = cc in let y : ⊥ = omega arith in absurd y)

-- the number reader gets what stands behind the line's first byte
module _ (line : List ℕ) (h : length line ≡ 0 → ⊥) (k : length line ≤ line_most) where
  pub read_behind : step_of line ≡ named_by (get_or line 0 0) (numbers_of (take (length line - 1) (drop 1 line)))
  read_behind =
      let p : 0 < length line = omega arith in
      let b : take (length line - 1) (drop 1 line) ≡ drop 1 line =
      take_all (length line - 1) (drop 1 line) (omega (arith, length-drop 1 line)) in
      rw b (ap step_of (drop-cons line 0 0 p) ∙ step-read (get_or line 0 0) (drop 1 line) (omega (arith, length-drop 1 line)))

  pub line_names : {held left : List ℕ} {r : Reading}
      → Names (named_by (get_or line 0 0) (numbers_of (take (length line - 1) (drop 1 line)))) held r left → Names (step_of line) held r left
  line_names n = rw read_behind n

-- the step by what the number reader answers of the part behind the first byte, and leaves in the place for numbers
module _ (byte : ℕ) (part : List ℕ) where
  pub part-broken : {a : Numbers} → a ≡ count_of (numbers_of part) → a ≡ Broken → named_by byte (numbers_of part) ≡ unreadable
  part-broken e d = rw (count-broken (numbers_of part) (sym d ∙ e))

  module _ (numbers zeros : List ℕ) {a : Numbers} {count : ℕ} (e : a ≡ count_of (numbers_of part)) (d : a ≡ All count)
      (place : numbers ≡ stored (numbers_of part).numbers zeros) where
    pub count-within : count ≤ length numbers
    count-within = let n = (count-all (numbers_of part) (sym d ∙ e)).1 in rw (place, length-append) (omega arith)

    numbers-read : take count numbers ≡ (numbers_of part).numbers
    numbers-read = rw place (take_at (numbers_of part).numbers _ count (sym (count-all (numbers_of part) (sym d ∙ e)).1))

    pub part_names : {held left : List ℕ} {r : Reading} → Names (named byte (take count numbers)) held r left
        → Names (named_by byte (numbers_of part)) held r left
    part_names n = rw ((count-all (numbers_of part) (sym d ∙ e)).0, ← numbers-read) n

    pub part_length : count ≡ length (take count numbers)
    part_length = sym (length-take-le count numbers count-within)

    pub part-fits : (held : List ℕ) → length numbers ≡ numbers_most → setpoints_most ≤ length held → Fits (take count numbers) held
    part-fits held n h = record { few = omega (arith, length-take count numbers); room = h }
