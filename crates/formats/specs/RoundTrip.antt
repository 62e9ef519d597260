-- For every format at once: a frame is read back as the values that it was made of, and no other bytes are read as them.
use Rattle.std.specs.Prelude.{◌≡◌, refl, ℕ, zero, suc, ◌+◌, ◌-◌, ◌*◌, ◌/◌, ◌%◌, ◌^◌, ◌≤◌, ◌<◌, List, [], ◌∷◌, Bool, true, false, ◌&&◌, leb, ltb, length, get_or}
use Rattle.std.proofs.Common.{sym, ap, ◌∙◌, arith, true≢false, le-leb, leb-true, leb-false, ltb-true, lt-ltb, eq-eqb, eqb-true}
use Rattle.std.proofs.lemmas.List.{length-replicate}
use Rattle.ranges.specs.Tests.{by-test, both, both_left, both_right}
use Rattle.fields.specs.Bits.{bit_of, bit_at, field_at, put_field}
use Rattle.fields.specs.BitLaws.{Bytes, bit-zero, bytes-equal}
use Rattle.fields.specs.FieldLaws.{field-same, field_bits, field_below, field-zero, length-put_field, put_other, put-found, put_bytes}
use Rattle.formats.specs.Grammar.{Grammar, end, field, Outcome, got, fault, ahead, judged, ended, read, good, size, lay, zeros, frame}

-- ---- what a judgement tells

pub judged_yes : (whole right : Bool) (o : Outcome) → whole ≡ true → right ≡ true → judged whole right o ≡ o
unfolding judged
judged_yes whole right o d e = rw (d, e)

-- a fault is no values
fault-got : (n : ℕ) (vs : List ℕ) → fault n ≡ got vs → ⊥
fault-got n vs e = let z : ◌≡◌ {A = ℕ} 0 1 = cc in omega arith

-- What was got behind a field: the field is whole and right, and the others were got.
pub record FieldGot (whole right : Bool) (v : ℕ) (o : Outcome) (vs : List ℕ) : Type 0 where
  pub others : List ℕ
  pub is_whole : whole ≡ true
  pub is_right : right ≡ true
  pub rest-got : o ≡ got others
  pub values : vs ≡ v ∷ others

pub field-got : (whole right : Bool) (v : ℕ) (o : Outcome) (vs : List ℕ) → judged whole right (ahead v o) ≡ got vs → FieldGot whole right v o vs
unfolding judged ahead
field-got false right v o vs e = absurd (fault-got 10 vs e)
field-got true false v o vs e = absurd (fault-got 11 vs e)
field-got true true v (got us) vs e = record { others = us; is_whole = refl; is_right = refl; rest-got = refl; values = cc }
field-got true true v (fault n) vs e = absurd (fault-got n vs e)

end-got : (right : Bool) (vs : List ℕ) → judged true right (got []) ≡ got vs → (right ≡ true) × (vs ≡ [])
unfolding judged
end-got true vs e = (refl, (cc))
end-got false vs e = absurd (fault-got 11 vs e)

-- ---- what laying leaves

pub length-lay : (g : Grammar) (vs bytes : List ℕ) (at : ℕ) → length (lay g vs bytes at) ≡ length bytes
unfolding lay
length-lay end vs bytes at = refl
length-lay (field w ok rest) [] bytes at = refl
length-lay (field w ok rest) (v ∷ vs) bytes at = length-lay (rest v) vs (put_field bytes at w v) (at + w) ∙ length-put_field bytes at w v

lay_bytes : (g : Grammar) (vs bytes : List ℕ) (at : ℕ) → Bytes bytes → Bytes (lay g vs bytes at)
unfolding lay
lay_bytes end vs bytes at h = h
lay_bytes (field w ok rest) [] bytes at h = h
lay_bytes (field w ok rest) (v ∷ vs) bytes at h = lay_bytes (rest v) vs (put_field bytes at w v) (at + w) (put_bytes bytes at w v h)

-- every bit outside of the fields
lay_other : (g : Grammar) (vs bytes : List ℕ) (at j : ℕ) → at + size g vs ≤ 8 * length bytes → (at ≤ j → j < at + size g vs → ⊥) → bit_at (lay g vs bytes at) j ≡ bit_at bytes j
unfolding lay size
lay_other end vs bytes at j h out = refl
lay_other (field w ok rest) [] bytes at j h out = refl
lay_other (field w ok rest) (v ∷ vs) bytes at j h out =
    let l : length (put_field bytes at w v) ≡ length bytes = length-put_field bytes at w v in
    lay_other (rest v) vs (put_field bytes at w v) (at + w) j (omega arith) (λ p q. out (omega arith) (omega arith))
    ∙ put_other bytes at w v j (omega arith) (λ p q. out p (omega arith))

-- ---- round trip

-- the one induction: fields laid over zero bits are read back
read-lay : (g : Grammar) (vs bytes : List ℕ) (at : ℕ) → good g vs ≡ true → at + size g vs ≤ 8 * length bytes → 8 * length bytes ≤ at + size g vs + 7 → ((j : ℕ) → at ≤ j → bit_at bytes j ≡ 0) → read g (lay g vs bytes at) at ≡ got vs
unfolding good size lay read ended ahead
read-lay end [] bytes at e h l z =
    judged_yes _ _ _ refl (both _ _ (le-leb (8 * length bytes) (at + 7) (omega arith)) (eq-eqb _ _ (field-zero bytes at (8 * length bytes - at) z)))
read-lay end (v ∷ vs) bytes at e h l z = absurd (true≢false (sym e))
read-lay (field w ok rest) [] bytes at e h l z = absurd (true≢false (sym e))
read-lay (field w ok rest) (v ∷ vs) bytes at e h l z =
    let b = put_field bytes at w v in
    let d = lay (rest v) vs b (at + w) in
    let right = both_left (ltb v (2 ^ w) && ok v) (good (rest v) vs) e in
    let more = both_right (ltb v (2 ^ w) && ok v) (good (rest v) vs) e in
    let n : length b ≡ length bytes = length-put_field bytes at w v in
    let m : length d ≡ length b = length-lay (rest v) vs b (at + w) in
    let f : field_at d at w ≡ v =
    field-same d b at w (λ j p q. lay_other (rest v) vs b (at + w) j (omega arith) (λ x y. omega arith))
    ∙ put-found bytes at w v (omega arith) (ltb-true _ _ (both_left _ _ right)) in
    let r : read (rest v) d (at + w) ≡ got vs =
    read-lay (rest v) vs b (at + w) more (omega arith) (omega arith) (λ j p. put_other bytes at w v j (omega arith) (λ x y. omega arith) ∙ z j (omega arith)) in
    judged_yes _ _ _ (le-leb (at + w) (8 * length d) (omega arith)) (ap ok f ∙ both_right (ltb v (2 ^ w)) (ok v) right)
    ∙ ap (λ (u : ℕ). ahead u (read (rest u) d (at + w))) f ∙ ap (ahead v) r

zeros_at : (n i : ℕ) → get_or (zeros n) i 0 ≡ 0
zeros_at zero i = refl
zeros_at (suc n) zero = refl
zeros_at (suc n) (suc i) = zeros_at n i

zeros_bit : (n j : ℕ) → bit_at (zeros n) j ≡ 0
unfolding bit_at
zeros_bit n j = ap (λ (k : ℕ). bit_of k (7 - j % 8)) (zeros_at n (j / 8)) ∙ bit-zero (7 - j % 8)

pub length-frame : (g : Grammar) (vs : List ℕ) → length (frame g vs) ≡ (size g vs + 7) / 8
unfolding frame
length-frame g vs = length-lay g vs (zeros ((size g vs + 7) / 8)) 0 ∙ length-replicate ((size g vs + 7) / 8) 0

-- what was written is read back
pub round_trip : (g : Grammar) (vs : List ℕ) → good g vs ≡ true → read g (frame g vs) 0 ≡ got vs
unfolding frame
round_trip g vs e =
    let n : length (zeros ((size g vs + 7) / 8)) ≡ (size g vs + 7) / 8 = length-replicate ((size g vs + 7) / 8) 0 in
    read-lay g vs (zeros ((size g vs + 7) / 8)) 0 e (omega arith) (omega arith) (λ j p. zeros_bit ((size g vs + 7) / 8) j)

-- ---- no other bytes

-- what is read is a frame's values
pub read-good : (g : Grammar) (bytes : List ℕ) (at : ℕ) (vs : List ℕ) → read g bytes at ≡ got vs → good g vs ≡ true
unfolding read ended good
read-good end bytes at vs e = rw (end-got _ vs e).1
read-good (field w ok rest) bytes at vs e =
    let f = field-got _ _ (field_at bytes at w) _ vs e in
    rw f.values (both _ _ (both _ _ (lt-ltb _ _ (field_below bytes at w)) f.is_right) (read-good (rest (field_at bytes at w)) bytes (at + w) f.others f.rest-got))

-- bytes that are read have the size of the values
pub read-size : (g : Grammar) (bytes : List ℕ) (at : ℕ) (vs : List ℕ) → read g bytes at ≡ got vs → at ≤ 8 * length bytes
    → (at + size g vs ≤ 8 * length bytes) × (8 * length bytes ≤ at + size g vs + 7)
unfolding read ended size
read-size end bytes at vs e h = let p : 8 * length bytes ≤ at + 7 = leb-true _ _ (both_left _ _ (end-got _ vs e).0) in omega arith
read-size (field w ok rest) bytes at vs e h =
    let f = field-got _ _ (field_at bytes at w) _ vs e in
    let p = leb-true (at + w) (8 * length bytes) f.is_whole in
    let s = read-size (rest (field_at bytes at w)) bytes (at + w) f.others f.rest-got p in
    rw f.values (omega arith)

-- bytes that are read as the same values have the same bits
read_same : (g : Grammar) (b d : List ℕ) (at : ℕ) (vs : List ℕ) → length b ≡ length d → read g b at ≡ got vs → read g d at ≡ got vs → (j : ℕ) → at ≤ j → j < 8 * length b → bit_at b j ≡ bit_at d j
unfolding read ended
read_same end b d at vs l e f j h k =
    let p = eqb-true _ _ (both_right (leb (8 * length b) (at + 7)) _ (end-got _ vs e).0) in
    let q = eqb-true _ _ (both_right (leb (8 * length d) (at + 7)) _ (end-got _ vs f).0) in
    let m : 8 * length d - at ≡ 8 * length b - at = omega arith in
    field_bits b d at (8 * length b - at) (p ∙ sym q ∙ ap (field_at d at) m) j h (omega arith)
read_same (field w ok rest) b d at vs l e f j h k =
    let x = field-got _ _ (field_at b at w) _ vs e in
    let y = field-got _ _ (field_at d at w) _ vs f in
    let same : field_at d at w ≡ field_at b at w = cc in
    let others : y.others ≡ x.others = cc in
    by-test (leb (at + w) j)
    (λ t.
    read_same (rest (field_at b at w)) b d (at + w) x.others l x.rest-got
    (ap (λ (v : ℕ). read (rest v) d (at + w)) (sym same) ∙ y.rest-got ∙ ap got others) j (leb-true _ _ t) k)
    (λ t. field_bits b d at w (sym same) j h (leb-false _ _ t))

-- if bytes are read as values, they are the frame of those values
pub only-frame : (g : Grammar) (bytes vs : List ℕ) → Bytes bytes → read g bytes 0 ≡ got vs → bytes ≡ frame g vs
unfolding frame
only-frame g bytes vs hb e =
    let k = (size g vs + 7) / 8 in
    let n : length (frame g vs) ≡ k = length-frame g vs in
    let s = read-size g bytes 0 vs e (omega arith) in
    bytes-equal bytes (frame g vs) hb (lay_bytes g vs (zeros k) 0 (λ i. omega (arith, zeros_at k i))) (omega arith)
    (λ j h. read_same g bytes (frame g vs) 0 vs (omega arith) e (round_trip g vs (read-good g bytes 0 vs e)) j (omega arith) h)
