-- Laws of readable frames: what the reader refuses gives 10 or 11, and what it takes has a header, which stands in the first two bytes.
use Rattle.std.specs.Prelude.{◌≡◌, refl, ℕ, ◌+◌, ◌/◌, ◌%◌, ◌≤◌, ◌<◌, List, [], Bool, true, false, not, ◌&&◌, ◌||◌, eqb, length, get_or, take, drop}
use Rattle.std.proofs.Common.{sym, ap, ap₂, ◌∙◌, arith, true≢false, get_or-take, get_or-drop, eqb-true, eq-eqb, ne_eqb}
use Rattle.ranges.specs.Tests.{by-test}
use Rattle.fields.specs.Bits.{field_at}
use Rattle.fields.specs.Parts.{part_at, field_by_bytes}
use Rattle.fields.specs.ByBytes.{field_by_bytes_lem}
use Rattle.std.specs.Prelude.{Result, Ok, Err}
use Rattle.std.specs.Result.{is_ok}
use Rattle.causes.specs.declared.Refusal.{Refusal}
use Rattle.causes.specs.Numbers.{number_of}
use Rattle.formats.specs.declared.reading.Scan.{Scan as Scanned}
use Rattle.formats.specs.Results.{scan_by, number-some}
use Rattle.formats.specs.Scan.{Scan}
use Rattle.formats.specs.Grammar.{Grammar, end, field, Outcome, got, fault, ahead, judged, ended, read}
use Rattle.formats.specs.Format.{format}
use Rattle.formats.specs.Reading.{scan_of}
use Rattle.formats.specs.RoundTrip.{read-good, read-size}
use Rattle.formats.specs.Walk.{frame_bits}
use Rattle.frames.specs.Frames.{found}
use Rattle.recordings.specs.Recording.{broken, readable, is_on}

-- ---- a fault is 10 or 11

abbrev Known : ℕ → Type 0
Known n = (eqb n 10 || eqb n 11) ≡ true

judged_known : (w r : Bool) (o : Outcome) (n : ℕ) → (o ≡ fault n → Known n) → judged w r o ≡ fault n → Known n
unfolding judged
judged_known false r o n k e = let d : n ≡ 10 = cc in rw d refl
judged_known true false o n k e = let d : n ≡ 11 = cc in rw d refl
judged_known true true o n k e = k e

ahead-fault : (v : ℕ) (o : Outcome) (n : ℕ) → ahead v o ≡ fault n → o ≡ fault n
unfolding ahead
ahead-fault v (got vs) n e = let z : ◌≡◌ {A = ℕ} 0 1 = cc in let y : ⊥ = omega arith in absurd y
ahead-fault v (fault m) n e = e

fault_known : (g : Grammar) (bytes : List ℕ) (at n : ℕ) → read g bytes at ≡ fault n → Known n
unfolding read ended
fault_known end bytes at n e =
    judged_known _ _ (got []) n (λ q. let z : ◌≡◌ {A = ℕ} 0 1 = cc in let y : ⊥ = omega arith in absurd y) e
fault_known (field w ok r) bytes at n e =
    let v = field_at bytes at w in
    judged_known _ _ _ n (λ q. fault_known (r v) bytes (at + w) n (ahead-fault v _ n q)) e

-- so what the reader refuses is broken, and a readable frame's values were got
pub fault-broken : (frame : List ℕ) (n : ℕ) → found frame ≡ fault n → readable frame ≡ false
unfolding broken
fault-broken frame n e = rw (e, fault_known format frame 0 n e)

pub got-readable : (frame vs : List ℕ) → found frame ≡ got vs → readable frame ≡ true
unfolding broken
got-readable frame vs e = rw e

pub record Values (frame : List ℕ) : Type 0 where
  pub values : List ℕ
  pub is-got : found frame ≡ got values

pub readable-got : (frame : List ℕ) → readable frame ≡ true → Values frame
readable-got frame e = go (found frame) refl
  where
    go : (o : Outcome) → found frame ≡ o → Values frame
    go (got vs) d = record { values = vs; is-got = d }
    go (fault n) d = absurd (true≢false (sym e ∙ fault-broken frame n d))

-- what a scan of it tells
scan-fault : (o : Outcome) → ((n : ℕ) → o ≡ fault n → Known n) → eqb (scan_of o).fault 0 ≡ not (broken o)
unfolding scan_of broken
scan-fault (got vs) k = refl
scan-fault (fault n) k =
    let h = k n refl in
    by-test (eqb n 0)
    (λ z. let e : n ≡ 0 = eqb-true n 0 z in absurd (true≢false (sym h ∙ rw e)))
    (λ z. z ∙ sym (ap not h))

pub scan-readable : (frame : List ℕ) {scan : Scan} → scan ≡ scan_of (found frame) → eqb scan.fault 0 ≡ readable frame
scan-readable frame e = ap (λ (s : Scan). eqb s.fault 0) e ∙ scan-fault (found frame) (fault_known format frame 0)

pub taken-readable : (frame : List ℕ) (r : Result Scanned Refusal) → scan_by r ≡ scan_of (found frame) → is_ok r ≡ readable frame
taken-readable frame (Ok s) e = scan-readable frame e
taken-readable frame (Err r) e = sym (ne_eqb (number_of r) 0 (number-some r)) ∙ scan-readable frame e

-- ---- the header

-- at least the header's 13 bits
pub readable-two : (frame : List ℕ) → readable frame ≡ true → 2 ≤ length frame
readable-two frame e =
    let v = readable-got frame e in
    let vs = v.values in
    omega (arith, frame_bits vs (read-good format frame 0 vs v.is-got), read-size format frame 0 vs v.is-got (omega arith))

-- a frame's link from its first two bytes
abbrev pub on_bytes : ℕ → ℕ → ℕ → ℕ → Bool
on_bytes client target b₀ b₁ = eqb (b₀ % 16) client && eqb (b₁ % 256 / 8) target

-- as the code judges them: the first byte's client, then the second's target
pub on-not : (client target b₀ b₁ : ℕ) → (b₀ % 16 ≡ client → ⊥) → false ≡ on_bytes client target b₀ b₁
on-not client target b₀ b₁ d = sym (rw (ne_eqb (b₀ % 16) client d))

pub on_by-target : (client target b₀ b₁ : ℕ) → b₀ % 16 ≡ client → b₁ < 256 → eqb (b₁ / 8) target ≡ on_bytes client target b₀ b₁
on_by-target client target b₀ b₁ e h =
    sym (rw (eq-eqb (b₀ % 16) client e) (ap (λ (b : ℕ). eqb (b / 8) target) (omega arith)))

client_byte : (frame : List ℕ) → field_at frame 4 4 ≡ get_or frame 0 0 % 16
unfolding field_by_bytes part_at
client_byte frame = sym (field_by_bytes_lem frame 4 4) ∙ omega arith

target_byte : (frame : List ℕ) → field_at frame 8 5 ≡ get_or frame 1 0 % 256 / 8
unfolding field_by_bytes part_at
target_byte frame = sym (field_by_bytes_lem frame 8 5)

pub on_bytes_lem : (bytes : List ℕ) (at n client target : ℕ) → 2 ≤ n
    → is_on client target (take n (drop at bytes)) ≡ on_bytes client target (get_or bytes at 0) (get_or bytes (at + 1) 0)
unfolding is_on
on_bytes_lem bytes at n client target h =
    let f = take n (drop at bytes) in
    let b₀ : get_or f 0 0 ≡ get_or bytes at 0 =
    get_or-take n (drop at bytes) 0 0 (omega arith) ∙ get_or-drop at bytes 0 0 ∙ ap (λ (i : ℕ). get_or bytes i 0) (omega arith) in
    let b₁ : get_or f 1 0 ≡ get_or bytes (at + 1) 0 = get_or-take n (drop at bytes) 1 0 (omega arith) ∙ get_or-drop at bytes 1 0 in
    ap₂ (λ (x y : ℕ). eqb x client && eqb y target)
    (client_byte f ∙ ap (λ (b : ℕ). b % 16) b₀)
    (target_byte f ∙ ap (λ (b : ℕ). b % 256 / 8) b₁)
